-- Which of two transactions comes first in lists that are joined and filtered.
use Rattle.std.proofs.Common.{◌≡◌, List, [], ◌∷◌, ◌++◌, Bool, true, false, not, ◌&&◌, ◌||◌, refl, sym, ap, ◌∙◌, inl, inr}
use Rattle.std.specs.Prelude.{◌⊎◌, filter}
use Rattle.std.proofs.lemmas.Bool.{cases_Bool, or_left, or_right, or_cases, and_parts, and_from, false≢true}
use Rattle.seq_base.specs.declared.tx.Tx.{Tx}
use Rattle.seq_base.specs.Lists.{holds}
use Rattle.seq_base.specs.Tx.{tx_eq, tx_eq_decides}
use Rattle.majority_graph.specs.Weights.{ranks_above}

module _ (a b : Tx) where
  -- the list holds one of the two
  abbrev pub holds_one : List Tx → Bool
  holds_one xs = holds a xs || holds b xs

  never_either : (c : Bool) → not (c || true) ≡ false
  never_either true = refl
  never_either false = refl

  -- The first of two joined lists decides, unless it holds neither.
  ranks_joined : (xs ys : List Tx) → ranks_above a b (xs ++ ys) ≡ (ranks_above a b xs || (not (holds_one xs) && ranks_above a b ys))
  ranks_joined [] ys = refl
  ranks_joined (x ∷ xs) ys = elim (cases_Bool (tx_eq x b)) [
    | inl is_b ↦ rw is_b (sym (ap (λ (c : Bool). c && ranks_above a b ys) (never_either (tx_eq x a || holds a xs))))
    | inr not_b ↦ elim (cases_Bool (tx_eq x a)) [
      | inl is_a ↦ rw (not_b, is_a) refl
      | inr not_a ↦ rw (not_b, not_a) (ranks_joined xs ys)
    ]
  ]

  pub ranks_left : (xs ys : List Tx) → ranks_above a b xs ≡ true → ranks_above a b (xs ++ ys) ≡ true
  ranks_left xs ys ranks = ranks_joined xs ys ∙ or_left (ranks_above a b xs) (not (holds_one xs) && ranks_above a b ys) ranks

  pub ranks_right : (xs ys : List Tx) → holds_one xs ≡ false → ranks_above a b ys ≡ true → ranks_above a b (xs ++ ys) ≡ true
  ranks_right xs ys none ranks =
      ranks_joined xs ys
      ∙ or_right (ranks_above a b xs) (not (holds_one xs) && ranks_above a b ys) (and_from (not (holds_one xs)) (ranks_above a b ys) (ap not none) ranks)

  pub ranks_either : (xs ys : List Tx) → ranks_above a b (xs ++ ys) ≡ true → (ranks_above a b xs ≡ true) ⊎ (ranks_above a b ys ≡ true)
  ranks_either xs ys ranks =
      elim (or_cases (ranks_above a b xs) (not (holds_one xs) && ranks_above a b ys) (sym (ranks_joined xs ys) ∙ ranks)) [
        | inl here ↦ inl here
        | inr there ↦ inr (and_parts (not (holds_one xs)) (ranks_above a b ys) there).1
      ]

  -- a filter that keeps a leaves it first
  pub ranks_filtered : (keep : Tx → Bool) (xs : List Tx) → keep a ≡ true → ranks_above a b xs ≡ true → ranks_above a b (filter keep xs) ≡ true
  ranks_filtered keep [] kept ranks = ranks
  ranks_filtered keep (x ∷ xs) kept ranks = elim (cases_Bool (tx_eq x b)) [
    | inl is_b ↦ absurd (false≢true (rw is_b at ranks))
    | inr not_b ↦ elim (cases_Bool (tx_eq x a)) [
      | inl is_a ↦ (let passes : keep x ≡ true = ap keep ((tx_eq_decides x a).0 is_a) ∙ kept in rw (passes, not_b, is_a) refl)
      | inr not_a ↦
          let rest = ranks_filtered keep xs kept (rw (not_b, not_a) at ranks) in
          elim (cases_Bool (keep x)) [
            | inl passes ↦ rw (passes, not_b, not_a) rest
            | inr fails ↦ rw fails rest
          ]
    ]
  ]
