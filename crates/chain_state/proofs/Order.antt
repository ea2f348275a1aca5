-- The order of two transactions in drawn lists.
use Rattle.std.proofs.Common.{◌≡◌, ℕ, zero, suc, List, [], ◌∷◌, take, Bool, true, false, not, refl, sym, subst, ◌∙◌, inl, inr}
use Rattle.std.proofs.lemmas.Bool.{cases_Bool, both_ways, not_from_false}
use Rattle.seq_base.specs.declared.tx.Tx.{Tx}
use Rattle.seq_base.specs.Setting.{Parameters}
use Rattle.seq_base.specs.Tx.{tx_eq, tx_eq_decides}
use Rattle.majority_graph.specs.Weights.{ranks_above}
use Rattle.chain_state.specs.Drawn.{drawn, fresh_drawn, late_drawn}
use Rattle.chain_state.specs.Lists.{BlockLists}
use Rattle.chain_state.specs.Proposals.{used_in, waiting_in}

-- where a comes before b and is wanted, what is drawn never has b before a
pub drawn_in_order : (most : ℕ) (wanted : Tx → Bool) (m : ℕ) (arrivals : List Tx) (a b : Tx) → wanted a ≡ true → ranks_above a b arrivals ≡ true
    → ranks_above b a (drawn most wanted (take m arrivals)) ≡ false
drawn_in_order zero wanted m arrivals a b is before = refl
drawn_in_order (suc most) wanted zero arrivals a b is before = refl
drawn_in_order (suc most) wanted (suc m) [] a b is before = absurd (cc)
drawn_in_order (suc most) wanted (suc m) (x ∷ xs) a b is before =
    elim (cases_Bool (tx_eq x b)) [
      | inl is_b ↦
          let none : ranks_above a b (x ∷ xs) ≡ false = rw is_b refl in
          absurd (both_ways (ranks_above a b (x ∷ xs)) none before)
      | inr not_b ↦ elim (cases_Bool (tx_eq x a)) [
        | inl is_a ↦
            let kept : wanted x ≡ true = subst (λ (t : Tx). wanted t ≡ true) (sym ((tx_eq_decides x a).0 is_a)) is in
            rw (kept, is_a) refl
        | inr not_a ↦
            let following : ranks_above a b xs ≡ true = sym (rw (not_b, not_a) refl) ∙ before in
            elim (cases_Bool (wanted x)) [
              | inl kept ↦ rw (kept, not_a, not_b) (drawn_in_order most wanted m xs a b is following)
              | inr left ↦ rw left (drawn_in_order (suc most) wanted m xs a b is following)
            ]
      ]
    ]

pub fresh_in_order : (s : Parameters) (chain : List BlockLists) (m : ℕ) (arrivals : List Tx) (a b : Tx) → used_in s chain a ≡ false
    → ranks_above a b arrivals ≡ true
    → ranks_above b a (fresh_drawn s chain (take m arrivals)) ≡ false
fresh_in_order s chain m arrivals a b unused before =
    drawn_in_order 128 (λ (t : Tx). not (used_in s chain t)) m arrivals a b (not_from_false (used_in s chain a) unused) before

pub late_in_order : (s : Parameters) (chain : List BlockLists) (m : ℕ) (arrivals : List Tx) (a b : Tx) → waiting_in s chain a ≡ true
    → ranks_above a b arrivals ≡ true
    → ranks_above b a (late_drawn s chain (take m arrivals)) ≡ false
late_in_order s chain m arrivals a b waiting before = drawn_in_order 256 (λ (t : Tx). waiting_in s chain t) m arrivals a b waiting before
