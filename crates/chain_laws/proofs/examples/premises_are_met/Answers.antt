use Rattle.std.proofs.Common.{◌≡◌, ◌≢◌, ℕ, suc, zero, ◌+◌, ◌<◌, List, [], ◌∷◌, Some, true, false, refl, ap, ◌∙◌, arith}
use Rattle.std.specs.Prelude.{◌↔◌, All, slice_get}
use Rattle.std.specs.List.{AllPairs}
use Rattle.std.proofs.lemmas.Bool.{false≢true}
use Rattle.std.proofs.lemmas.List.Elements.{All-from_recursion, All-nil, All-cons}
use Rattle.std.proofs.lemmas.List.Kept.{AllPairs-cons}
use Rattle.std.proofs.lemmas.Option.{same_Some}
use Rattle.seq_base.specs.declared.tx.Tx.{Tx}
use Rattle.majority_graph.specs.Examples.{first, second, five}
use Rattle.count_set.specs.Sets.{size_of, AreReplicas}
use Rattle.chain_laws.specs.Received.{honest_before, Received}
use Rattle.seq_base.specs.declared.order.SealedOrder.{SealedOrder}
use Rattle.chain_laws.specs.Drawn.{Placed, IsDrawnIfHonest, IsBlock, fresh_lists}
use Rattle.chain_laws.specs.Chain.{IsProposedBefore, IsMissingBefore}
use Rattle.chain_laws.specs.Examples.{is_last, alike, opening}
use Rattle.chain_laws.proofs.ExampleBatches.{opening_is_final}
use Rattle.chain_laws.proofs.examples.premises_are_met.Goals as goal

honest_count : size_of 5 (honest_before is_last alike first second) ≡ 4
honest_count = refl

faulty_count : size_of 5 is_last ≡ 1
faulty_count = refl

pub returns-clause-valid : goal.returns-clause-valid
returns-clause-valid c = record {
  replicas = record { some = (omega arith); few = (omega arith) };
  gamma = record { positive = (omega arith); small = (omega arith); above_half = (omega arith); at_most_one = (omega arith) };
  resilience = record { enough = (omega arith) };
}

pub returns-clause-few : goal.returns-clause-few
returns-clause-few c = omega (arith, faulty_count)

received : Received five is_last alike first second
received = record { enough = (omega (arith, honest_count, faulty_count)) }

pub returns-clause-received : goal.returns-clause-received
returns-clause-received c = received

alone : (x : ℕ) → AllPairs (λ (a b : ℕ). a ≢ b) (x ∷ [])
alone x i j d less inside = absurd (omega arith)

replicas : AreReplicas 5 (0 ∷ 1 ∷ 2 ∷ 4 ∷ [])
replicas = record {
  distinct = AllPairs-cons (λ (a b : ℕ). a ≢ b) 0 (1 ∷ 2 ∷ 4 ∷ [])
      (All-from_recursion (λ (b : ℕ). 0 ≢ b) (1 ∷ 2 ∷ 4 ∷ []) ((omega arith), ((omega arith), ((omega arith), tt))))
      (AllPairs-cons (λ (a b : ℕ). a ≢ b) 1 (2 ∷ 4 ∷ []) (All-from_recursion (λ (b : ℕ). 1 ≢ b) (2 ∷ 4 ∷ []) ((omega arith), ((omega arith), tt)))
      (AllPairs-cons (λ (a b : ℕ). a ≢ b) 2 (4 ∷ []) (All-from_recursion (λ (b : ℕ). 2 ≢ b) (4 ∷ []) ((omega arith), tt)) (alone 4)));
  below = All-from_recursion (λ (r : ℕ). r < 5) (0 ∷ 1 ∷ 2 ∷ 4 ∷ []) ((omega arith), ((omega arith), ((omega arith), ((omega arith), tt))));
}

block : IsBlock five is_last alike opening
block = record {
  replicas = replicas;
  quorum = refl;
  honest = All-from_recursion (λ (sealed : SealedOrder). IsDrawnIfHonest is_last alike opening sealed.order) opening.orders (
    (λ honest. record { known = 2; fresh = refl; late = refl }),
    (
      (λ honest. record { known = 2; fresh = refl; late = refl }),
      ((λ honest. record { known = 1; fresh = refl; late = refl }), ((λ honest. absurd (false≢true (cc))), tt)),
    ),
  );
}

pub returns-clause-block : goal.returns-clause-block
returns-clause-block c = block

used : (number : ℕ) (one : Placed) (t : Tx) → slice_get (opening ∷ []) number ≡ Some one → (one.used t ≡ true) ↔ IsProposedBefore five (opening ∷ []) number t
used zero one t stands = (
  (λ is. absurd (false≢true (ap (λ (x : Placed). x.used t) (same_Some opening one stands) ∙ is))),
  (λ earlier. let less : earlier.proposer < 0 = earlier.before in absurd (omega arith)),
)
used (suc number) one t stands = absurd (cc)

waiting : (number : ℕ) (one : Placed) (t : Tx) → slice_get (opening ∷ []) number ≡ Some one
    → (one.waiting t ≡ true) ↔ IsMissingBefore five (opening ∷ []) number t
waiting zero one t stands = (
  (λ is. absurd (false≢true (ap (λ (x : Placed). x.waiting t) (same_Some opening one stands) ∙ is))),
  (λ earlier. let more : earlier.proposer + 1 + earlier.rest ≡ 0 = earlier.before in absurd (omega arith)),
)
waiting (suc number) one t stands = absurd (cc)

pub returns-clause-chain : goal.returns-clause-chain
returns-clause-chain c = record { each = All-from_recursion (IsBlock five is_last alike) (opening ∷ []) (block, tt); used = used; waiting = waiting }

all_unused : (list : List Tx) → All (λ (t : Tx). opening.used t ≡ false) list
all_unused [] = All-nil (λ (t : Tx). opening.used t ≡ false)
all_unused (x ∷ list) = All-cons (λ (t : Tx). opening.used t ≡ false) x list refl (all_unused list)

all_lists : (lists : List (List Tx)) → All (λ (list : List Tx). All (λ (t : Tx). opening.used t ≡ false) list) lists
all_lists [] = All-nil (λ (list : List Tx). All (λ (t : Tx). opening.used t ≡ false) list)
all_lists (x ∷ lists) = All-cons (λ (list : List Tx). All (λ (t : Tx). opening.used t ≡ false) list) x lists (all_unused x) (all_lists lists)

pub returns-clause-unused : goal.returns-clause-unused
returns-clause-unused c =
    All-from_recursion (λ (one : Placed). All (λ (list : List Tx). All (λ (t : Tx). one.used t ≡ false) list) (fresh_lists one))
    (opening ∷ []) (all_lists (fresh_lists opening), tt)

pub returns-clause-batches : goal.returns-clause-batches
returns-clause-batches c = opening_is_final
