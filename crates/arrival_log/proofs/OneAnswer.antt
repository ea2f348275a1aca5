-- Only one answer fits a log and a transaction, unless memory runs out.
use Rattle.std.proofs.Common.{◌≡◌, ◌≢◌, inl, inr, ℕ, true, false, true≢false, List, get_or, slice_get, Some, Ok, Err, Result, refl, sym, ap, ◌∙◌, arith}
use Rattle.std.proofs.lemmas.Bool.{cases_order}
use Rattle.std.proofs.lemmas.List.Folds.{list_any_at}
use Rattle.std.proofs.lemmas.Option.{get_or_from_slice_get, slice_get_within}
use Rattle.seq_base.specs.declared.tx.Tx.{Tx}
use Rattle.seq_base.specs.Tx.{tx_eq, tx_eq_decides}
use Rattle.seq_base.specs.Lists.{holds}
use Rattle.arrival_log.specs.declared.log.Placed.{Placed}
use Rattle.arrival_log.specs.declared.log.Placed.TheVariants.{At, Again}
use Rattle.arrival_log.specs.declared.log.SubmitFault.{SubmitFault}
use Rattle.arrival_log.specs.declared.log.SubmitFault.TheVariants.{Full, NoMemory}
use Rattle.arrival_log.specs.Arrivals.{IsArrivals, IsAnswer}

-- a transaction with a place is not absent
not_absent : (log : List Tx) (tx : Tx) (k : ℕ) → slice_get log k ≡ Some tx → holds tx log ≡ false → ⊥
not_absent log tx k stands absent =
    let here : tx_eq (get_or log k tx) tx ≡ true = (tx_eq_decides (get_or log k tx) tx).1 (get_or_from_slice_get log k tx tx stands) in
    true≢false (sym (list_any_at (λ x. tx_eq x tx) log k tx (slice_get_within log k tx stands) here) ∙ absent)

-- a transaction that occurs once has one place
one_place : (log : List Tx) (tx : Tx) (j k : ℕ) → IsArrivals log → slice_get log j ≡ Some tx → slice_get log k ≡ Some tx → j ≡ k
one_place log tx j k arrivals at_j at_k =
    let same : get_or log j tx ≡ get_or log k tx = get_or_from_slice_get log j tx tx at_j ∙ sym (get_or_from_slice_get log k tx tx at_k) in
    elim (cases_order j k) [
      | inl one ↦ one
      | inr (inl before) ↦ absurd (arrivals.distinct j k tx before (slice_get_within log k tx at_k) same)
      | inr (inr after) ↦ absurd (arrivals.distinct k j tx after (slice_get_within log j tx at_j) (sym same))
    ]

pub one_answer : (log : List Tx) (tx : Tx) (a b : Result Placed SubmitFault) → IsArrivals log → IsAnswer log tx a → IsAnswer log tx b
    → a ≢ Err NoMemory → b ≢ Err NoMemory → a ≡ b
one_answer log tx (Ok (At j)) (Ok (At k)) arrivals a b _ _ = ap (λ (n : ℕ). Ok (At n)) (a.1 ∙ sym b.1)
one_answer log tx (Ok (At j)) (Ok (Again k)) arrivals a b _ _ = absurd (not_absent log tx k b a.0)
one_answer log tx (Ok (At j)) (Err Full) arrivals a b _ _ = absurd (let less = a.2 in let whole = b.1 in omega arith)
one_answer log tx (Ok (Again j)) (Ok (At k)) arrivals a b _ _ = absurd (not_absent log tx j a b.0)
one_answer log tx (Ok (Again j)) (Ok (Again k)) arrivals a b _ _ = ap (λ (n : ℕ). Ok (Again n)) (one_place log tx j k arrivals a b)
one_answer log tx (Ok (Again j)) (Err Full) arrivals a b _ _ = absurd (not_absent log tx j a b.0)
one_answer log tx (Err Full) (Ok (At k)) arrivals a b _ _ = absurd (let less = b.2 in let whole = a.1 in omega arith)
one_answer log tx (Err Full) (Ok (Again k)) arrivals a b _ _ = absurd (not_absent log tx k b a.0)
one_answer log tx (Err Full) (Err Full) arrivals a b _ _ = refl
one_answer log tx (Err NoMemory) b arrivals _ _ some _ = absurd (some refl)
one_answer log tx a (Err NoMemory) arrivals _ _ _ some = absurd (some refl)
