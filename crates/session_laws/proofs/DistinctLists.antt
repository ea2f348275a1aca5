-- Lists without repetition, joined.
use Rattle.std.proofs.Common.{◌≡◌, ◌≢◌, List, [], ◌∷◌, ◌++◌, true, false, refl, sym, ap, subst, ◌∙◌, inl, inr, arith}
use Rattle.std.specs.Prelude.{All}
use Rattle.std.proofs.lemmas.Bool.{or_left, or_right, or_parts, or_cases, false≢true}
use Rattle.std.proofs.lemmas.List.Concat.{flat_map-append}
use Rattle.std.proofs.lemmas.List.Elements.{All-nil, All-cons, All-append, All-head, All-tail}
use Rattle.std.proofs.lemmas.List.Folds.{list_any-append}
use Rattle.std.proofs.lemmas.List.Kept.{AllPairs-cons}
use Rattle.count_set.proofs.Pairs.{AllPairs-head, AllPairs-tail}
use Rattle.seq_base.specs.declared.tx.Tx.{Tx}
use Rattle.seq_base.specs.Lists.{holds, AreDistinct}
use Rattle.seq_base.specs.Tx.{tx_eq, tx_eq_decides}
use Rattle.chain_state.specs.Proposals.{joined}
use Rattle.run_record.specs.Done.{is_finalised}
use Rattle.session_rules.specs.Cuts.{cut_at}
use Rattle.session_laws.proofs.CutLists.{cut_begins}

-- a batch holds what the joined batches hold
pub held_in_one : (batches : List (List Tx)) (t : Tx) → holds t (joined batches) ≡ true → is_finalised batches t ≡ true
held_in_one [] t held = held
held_in_one (batch ∷ later) t held =
    elim (or_cases (holds t batch) (holds t (joined later)) (sym (list_any-append (λ x. tx_eq x t) batch (joined later)) ∙ held)) [
      | inl here ↦ or_left (holds t batch) (is_finalised later t) here
      | inr there ↦ or_right (holds t batch) (is_finalised later t) (held_in_one later t there)
    ]

-- no element of ys is x
apart_from : (xs ys : List Tx) → ((t : Tx) → holds t ys ≡ true → holds t xs ≡ false) → (x : Tx) → holds x xs ≡ true → All (λ u. x ≢ u) ys
apart_from xs [] apart x inside = All-nil (λ u. x ≢ u)
apart_from xs (y ∷ ys) apart x inside =
    All-cons (λ u. x ≢ u) y ys
    (λ same. false≢true (sym (apart x (or_left (tx_eq y x) (holds x ys) ((tx_eq_decides y x).1 (sym same)))) ∙ inside))
    (apart_from xs ys (λ t held. apart t (or_right (tx_eq y t) (holds t ys) held)) x inside)

pub distinct_join : (xs ys : List Tx) → AreDistinct xs → AreDistinct ys → ((t : Tx) → holds t ys ≡ true → holds t xs ≡ false) → AreDistinct (xs ++ ys)
distinct_join [] ys one other apart = other
distinct_join (x ∷ xs) ys one other apart =
    let here : holds x (x ∷ xs) ≡ true = or_left (tx_eq x x) (holds x xs) ((tx_eq_decides x x).1 refl) in
    AllPairs-cons (λ u v. u ≢ v) x (xs ++ ys)
    (All-append (λ u. x ≢ u) xs ys (AllPairs-head (λ u v. u ≢ v) x xs one) (apart_from (x ∷ xs) ys apart x here))
    (distinct_join xs ys (AllPairs-tail (λ u v. u ≢ v) x xs one) other
    (λ t held. (or_parts (tx_eq x t) (holds t xs) (apart t held)).1))

all_left : {X : Type 0} (P : X → Type 0) (xs ys : List X) → All P (xs ++ ys) → All P xs
all_left P [] ys all = All-nil P
all_left P (x ∷ xs) ys all = All-cons P x xs (All-head P x (xs ++ ys) all) (all_left P xs ys (All-tail P x (xs ++ ys) all))

distinct_left : (xs ys : List Tx) → AreDistinct (xs ++ ys) → AreDistinct xs
distinct_left [] ys distinct = λ i j d less inside. absurd (omega (arith, inside))
distinct_left (x ∷ xs) ys distinct =
    AllPairs-cons (λ u v. u ≢ v) x xs (all_left (λ u. x ≢ u) xs ys (AllPairs-head (λ u v. u ≢ v) x (xs ++ ys) distinct))
    (distinct_left xs ys (AllPairs-tail (λ u v. u ≢ v) x (xs ++ ys) distinct))

pub cut_distinct : (m : Tx) (batches : List (List Tx)) → AreDistinct (joined batches) → AreDistinct (joined (cut_at m batches))
cut_distinct m batches distinct =
    let (rest, is) = cut_begins m batches in
    distinct_left (joined (cut_at m batches)) (joined rest)
    (subst AreDistinct (ap joined is ∙ flat_map-append (λ (batch : List Tx). batch) (cut_at m batches) rest) distinct)
