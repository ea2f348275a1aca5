-- When no transaction occurs twice in a list.
use Rattle.std.proofs.Common.{◌≡◌, ◌≢◌, ◌<◌, ℕ, suc, List, [], ◌∷◌, length, slice_index_or, true, not, refl, sym, ◌∙◌, arith, inl, inr}
use Rattle.std.proofs.lemmas.Bool.{false≢true, cases_Bool, and_parts}
use Rattle.std.proofs.lemmas.List.{get_or_default}
use Rattle.std.proofs.lemmas.List.Folds.{Any-from_list_any, list_any-from_Any}
use Rattle.std.proofs.lemmas.List.Kept.{AllPairs-cons}
use Rattle.seq_base.specs.declared.tx.Tx.{Tx}
use Rattle.seq_base.specs.Lists.{AreDistinct, holds}
use Rattle.seq_base.specs.Tx.{tx_eq, tx_eq_decides}
use Rattle.plan_text.specs.OrderReading.{are_distinct}

-- the first transaction does not occur again
absent : (x : Tx) (xs : List Tx) → not (holds x xs) ≡ true → (k : ℕ) (d : Tx) → k < length xs → x ≢ slice_index_or xs k d
absent x xs none k d within same =
    let y : Tx = slice_index_or xs k d in
    let here : holds x xs ≡ true = list_any-from_Any (λ z. tx_eq z x) xs (k, y, within, get_or_default xs k y d within, (tx_eq_decides y x).1 (sym same)) in
    false≢true (rw here at none)

-- the test returns true only for distinct lists
pub distinct_reported : (txs : List Tx) → are_distinct txs ≡ true → AreDistinct txs
distinct_reported [] reported = λ i j d below within. absurd (omega arith)
distinct_reported (x ∷ xs) reported =
    let (none, rest) = and_parts (not (holds x xs)) (are_distinct xs) reported in
    AllPairs-cons (λ (u v : Tx). u ≢ v) x xs (absent x xs none) (distinct_reported xs rest)

-- and for all of them
pub distinct_tested : (txs : List Tx) → AreDistinct txs → are_distinct txs ≡ true
distinct_tested [] pairs = refl
distinct_tested (x ∷ xs) pairs =
    elim (cases_Bool (holds x xs)) [
      | inl here ↦
          let (k, y, within, at, is) = Any-from_list_any (λ z. tx_eq z x) xs here in
          absurd (pairs 0 (suc k) x (omega arith) (omega (arith, within)) (sym ((tx_eq_decides y x).0 is) ∙ sym at ∙ get_or_default xs k y x within))
      | inr none ↦ rw (none, distinct_tested xs (λ i j d below within. pairs (suc i) (suc j) d (omega (arith, below)) (omega (arith, within)))) refl
    ]
