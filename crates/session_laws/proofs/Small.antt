-- The two sessions that can be checked by hand.
use Rattle.std.proofs.Common.{◌≡◌, ◌≢◌, ℕ, zero, suc, ◌<◌, List, [], ◌∷◌, ◌++◌, get_or, true, false, refl, ap, arith}
use Rattle.std.specs.Prelude.{All}
use Rattle.std.proofs.lemmas.Bool.{false≢true}
use Rattle.std.proofs.lemmas.List.Elements.{All-from_recursion}
use Rattle.std.proofs.lemmas.List.Kept.{AllPairs-cons}
use Rattle.seq_base.specs.declared.tx.Tx.{Tx}
use Rattle.seq_base.specs.Lists.{AreDistinct}
use Rattle.chain_state.specs.Proposals.{joined}
use Rattle.count_set.specs.Sets.{size_of}
use Rattle.majority_graph.specs.Examples.{first, second, third, five}
use Rattle.chain_laws.specs.Examples.{is_last}
use Rattle.chain_laws.specs.Received.{Received, honest_before}
use Rattle.chain_laws.proofs.Once.{held_has}
use Rattle.run_record.specs.Done.{is_finalised}
use Rattle.headline_laws.specs.Headline.{Begins}
use Rattle.session_rules.specs.Cuts.{carried_over, marker}
use Rattle.session_rules.specs.Histories.{SessionArrivals, SessionLists, HasEndedBefore, cut_in, history, history_before}
use Rattle.session_rules.specs.Rules.{ArrivesInTurn, ArrivesNew, CarriesFirst, CarriesOver}
use Rattle.session_laws.specs.Examples.{again, carrying, cut, early, hasty, marked, patient, repeated, slow, turned}

-- where the first session has its marker, it is the only one before the second
pub one_ended : (lists : SessionLists) → is_finalised (lists 0) (marker 0) ≡ true → HasEndedBefore lists 1
one_ended lists held zero less = held
one_ended lists held (suc earlier) less = absurd (omega (arith, less))

ended_up_to : (lists : SessionLists) → is_finalised (lists 0) (marker 0) ≡ true → (session : ℕ) → session < 2 → HasEndedBefore lists session
ended_up_to lists held zero less = λ earlier before. absurd (omega (arith, before))
ended_up_to lists held (suc zero) less = one_ended lists held
ended_up_to lists held (suc (suc later)) less = absurd (omega (arith, less))

-- So whatever arrives in the second arrives in turn.
pub in_turn : (lists : SessionLists) → is_finalised (lists 0) (marker 0) ≡ true → (arrived : SessionArrivals) → ArrivesInTurn 2 lists arrived
in_turn lists held arrived session t less some = ended_up_to lists held session less

-- nothing is in the history before the first session
new_if : (lists : SessionLists) (arrived : SessionArrivals) → All (λ t. is_finalised (history_before lists 1) t ≡ false) (arrived 1)
    → ArrivesNew 2 lists arrived
new_if lists arrived new zero t less held = refl
new_if lists arrived new (suc zero) t less held = held_has (λ x. is_finalised (history_before lists 1) x ≡ false) (arrived 1) t new held
new_if lists arrived new (suc (suc later)) t less held = absurd (omega (arith, less))

carries_if : (lists : SessionLists) (arrived : SessionArrivals) (rest : List Tx) → arrived 1 ≡ carried_over (cut_in lists 0) (arrived 0) ++ rest
    → CarriesFirst 2 lists arrived
carries_if lists arrived rest is zero less ended = (rest, is)
carries_if lists arrived rest is (suc later) less ended = absurd (omega (arith, less))

pub cut_carries : CarriesOver 2 cut carrying
cut_carries = record {
  in_turn = in_turn cut refl carrying;
  new = new_if cut carrying (All-from_recursion (λ t. is_finalised (history_before cut 1) t ≡ false) (carrying 1) (refl, (refl, tt)));
  carries = carries_if cut carrying (third ∷ []) refl;
}

pub again_carries : CarriesFirst 2 repeated again
again_carries = carries_if repeated again (first ∷ []) refl

pub none_twice : AreDistinct []
none_twice i j d less inside = absurd (omega (arith, inside))

alone : (t : Tx) → AreDistinct (t ∷ [])
alone t i j d less inside = absurd (omega (arith, less, inside))

pub repeated_distinct : (session : ℕ) → AreDistinct (joined (repeated session))
repeated_distinct zero =
    let apart : first ≢ marker 0 = λ same. (let clients : 1 ≡ 0 = ap (λ (t : Tx). t.client) same in absurd (omega (arith, clients))) in
    AllPairs-cons (λ u v. u ≢ v) first (marker 0 ∷ []) (All-from_recursion (λ v. first ≢ v) (marker 0 ∷ []) (apart, tt)) (alone (marker 0))
repeated_distinct (suc zero) = alone first
repeated_distinct (suc (suc later)) = none_twice

pub held_twice : ¬ AreDistinct (joined (history repeated 1))
held_twice distinct = distinct 0 2 first (omega arith) (omega arith) refl

pub slow_new : ArrivesNew 2 slow early
slow_new = new_if slow early (All-from_recursion (λ t. is_finalised (history_before slow 1) t ≡ false) (early 1) (refl, tt))

pub slow_open : ¬ HasEndedBefore slow 1
slow_open ended = false≢true (ended 0 (omega arith))

pub hasty_begins : (session : ℕ) → Begins (hasty session) (patient session)
hasty_begins zero = ((marker 0 ∷ []) ∷ [], refl)
hasty_begins (suc zero) = ([], refl)
hasty_begins (suc (suc later)) = ([], refl)

-- the client of the second batch's transaction
abbrev client_of : List (List Tx) → ℕ
client_of batches = (get_or (get_or batches 1 []) 0 first).client

pub hasty_parts : ¬ Begins (history hasty 1) (history patient 1)
hasty_parts (rest, is) = let clients : 0 ≡ 2 = ap client_of is in absurd (omega (arith, clients))

pub patient_parts : ¬ Begins (history patient 1) (history hasty 1)
patient_parts (rest, is) = let clients : 2 ≡ 0 = ap client_of is in absurd (omega (arith, clients))

pub turned_new : (r : ℕ) → ArrivesNew 2 marked (turned r)
turned_new zero =
    new_if marked (turned 0) (All-from_recursion (λ t. is_finalised (history_before marked 1) t ≡ false) (turned 0 1) (refl, (refl, (refl, tt))))
turned_new (suc r) =
    new_if marked (turned (suc r)) (All-from_recursion (λ t. is_finalised (history_before marked 1) t ≡ false) (turned (suc r) 1) (refl, (refl, (refl, tt))))

honest_count : size_of 5 (honest_before is_last (λ r. turned r 0 ++ turned r 1) second first) ≡ 4
honest_count = refl

faulty_count : size_of 5 is_last ≡ 1
faulty_count = refl

pub turned_received : Received five is_last (λ r. turned r 0 ++ turned r 1) second first
turned_received = record { enough = omega (arith, honest_count, faulty_count) }
