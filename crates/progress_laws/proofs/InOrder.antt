-- The run of two transactions at each replica: all honest batch lists hold both, at the same places.
use Rattle.std.proofs.Common.{◌≡◌, ℕ, zero, suc, List, [], ◌∷◌, ◌++◌, Option, Some, refl, sym, ap, subst, ◌∙◌, inl, inr, ◌⊎◌, arith}
use Rattle.std.specs.Prelude.{slice_get, slice_index_or}
use Rattle.std.specs.List.{Contains}
use Rattle.std.specs.Option.{option_map}
use Rattle.std.proofs.lemmas.Option.{slice_get-map, slice_get-get_or, get_or_from_slice_get, same_Some}
use Rattle.seq_base.specs.declared.tx.Tx.{Tx}
use Rattle.seq_base.specs.Lists.{holds}
use Rattle.seq_base.specs.Setting.{Parameters, IsValid}
use Rattle.batch_laws.specs.Batches.{StandsIn}
use Rattle.fault_script.specs.Sealing.{Signer}
use Rattle.node_core.specs.Rows.{Check}
use Rattle.run_record.specs.declared.record.RunRecord.{RunRecord}
use Rattle.round_rules.proofs.Places.{found_at}
use Rattle.lawful_runs.proofs.Worlds.{Good, ends_good}
use Rattle.lawful_runs.specs.Honest.{IsRun, capacity_at}
use Rattle.lawful_runs.specs.Lawful.{AreMadeFor}
use Rattle.replay_run.specs.Play.{play_of, record_of, run_for, start_of, steps_of}
use Rattle.replica_seat.specs.Seats.{Replica}
use Rattle.replay_run.specs.World.{World}
use Rattle.headline_laws.specs.Headline.{Agree, Begins, Once}
use Rattle.journal_rules.specs.Records.{batches_in}
use Rattle.run_verdict.specs.Shown.{IsDone, IsDue, IsFinal, IsHonest}
use Rattle.seq_base.proofs.Members.{place_holds}
use Rattle.progress_laws.proofs.TwoEach.{both, list_is}
use Rattle.progress_laws.specs.Plain.{HoldBoth, client_tx, two_each}

-- ---- places of batch lists

-- what a batch list holds, any extension of it holds at the same place
stays : (one rest : List (List Tx)) (i : ℕ) (t : Tx) → StandsIn one i t → StandsIn (one ++ rest) i t
stays [] rest i t stands = absurd (cc)
stays (b ∷ one) rest zero t stands = stands
stays (b ∷ one) rest (suc i) t stands = stays one rest i t stands

-- a transaction in a final batch has a place
placed : (batches : List (List Tx)) (t : Tx) → IsFinal batches t → (i : ℕ) × StandsIn batches i t
placed batches t final = (final.1.0, held)
  where
    batch_is : slice_index_or batches final.1.0 final.0 ≡ final.0
    batch_is = final.1.2

    in_batch : slice_index_or final.0 final.2.0 t ≡ t
    in_batch = final.2.2

    held : StandsIn batches final.1.0 t
    held =
        let same : slice_index_or batches final.1.0 [] ≡ final.0 =
        get_or_from_slice_get batches final.1.0 final.0 [] (slice_get-get_or batches final.1.0 final.0 final.1.1 ∙ ap Some batch_is) in
        ap (holds t) same ∙ place_holds final.0 final.2.0 t (slice_get-get_or final.0 final.2.0 t final.2.1 ∙ ap Some in_batch)

-- if two lists agree and hold a transaction once, it is at the same place in both
one_place : (one other : List (List Tx)) (i j : ℕ) (t : Tx) → Begins one other ⊎ Begins other one
    → ((k l : ℕ) → StandsIn one k t → StandsIn one l t → k ≡ l) → ((k l : ℕ) → StandsIn other k t → StandsIn other l t → k ≡ l)
    → StandsIn one i t → StandsIn other j t → i ≡ j
one_place one other i j t (inl begins) once_one once_other at_i at_j =
    once_other i j (subst (λ (bs : List (List Tx)). StandsIn bs i t) (sym begins.1) (stays one begins.0 i t at_i)) at_j
one_place one other i j t (inr begins) once_one once_other at_i at_j =
    once_one i j at_i (subst (λ (bs : List (List Tx)). StandsIn bs j t) (sym begins.1) (stays other begins.0 j t at_j))

-- ---- the run

module _ (s : Parameters) (valid : IsValid s) (fits : Check) (sealers : List Signer) (made : AreMadeFor (two_each s) sealers)
    (agree : Agree (play_of fits (two_each s) sealers)) (once : Once (play_of fits (two_each s) sealers))
    (done : IsDone (play_of fits (two_each s) sealers)) where
  abbrev world : World
  world = run_for fits (two_each s) (start_of (two_each s) sealers) (steps_of (two_each s))

  abbrev run : RunRecord
  run = play_of fits (two_each s) sealers

  good : Good fits (two_each s) (capacity_at sealers) world
  good = ends_good fits (two_each s) sealers (steps_of (two_each s)) made

  replica_at : (r : ℕ) → IsHonest run r → (x : Replica) × (slice_get world.replicas r ≡ Some x) × (x.feed.txs ≡ both)
  unfolding record_of
  replica_at r honest =
      let found = found_at world.replicas r (omega (arith, good.count, honest.below)) in
      let is : IsRun fits (two_each s) r (capacity_at sealers r) found.0 = good.runs r found.0 found.1 honest.correct in
      (found.0, found.1, is.list ∙ list_is s found.0.number)

  first_honest : IsHonest run 0
  unfolding record_of
  first_honest = record { below = omega (arith, valid.replicas.some); correct = refl }

  arrived : (r : ℕ) → (honest : IsHonest run r) → slice_get run.arrivals r ≡ Some both
  unfolding record_of
  arrived r honest =
      let (x, found, is) = replica_at r honest in
      slice_get-map (λ (y : Replica). y.feed.txs) world.replicas r ∙ ap (λ (o : Option Replica). option_map (λ (y : Replica). y.feed.txs) o) found ∙ ap Some is

  due : (t : Tx) → Contains both t → IsDue run t
  due t held = record {
    some = (0, both, record { honest = first_honest; is = arrived 0 first_honest });
    every = λ r list is. (let same : both ≡ list = same_Some both list (sym (arrived r is.honest) ∙ is.is) in subst (λ (l : List Tx). Contains l t) same held);
  }

  finalised : (t : Tx) → Contains both t → (r : ℕ) → IsHonest run r → (i : ℕ) × StandsIn (batches_in run r) i t
  finalised t held r honest =
      let ended = done r honest in
      let place = placed ended.batches t (ended.every t (due t held)) in
      (place.0, subst (λ (bs : List (List Tx)). StandsIn bs place.0 t) (sym (get_or_from_slice_get run.batches r ended.batches [] ended.is)) place.1)

  at_one_place : (t : Tx) (held : Contains both t) (r : ℕ) → IsHonest run r → StandsIn (batches_in run r) (finalised t held 0 first_honest).0 t
  at_one_place t held r honest =
      let here = finalised t held r honest in
      let there = finalised t held 0 first_honest in
      let same : here.0 ≡ there.0 = one_place (batches_in run r) (batches_in run 0) here.0 there.0 t (agree r 0 honest first_honest)
      (λ k l. once.one_batch r k l t honest) (λ k l. once.one_batch 0 k l t first_honest) here.1 there.1 in
      subst (λ (i : ℕ). StandsIn (batches_in run r) i t) same here.1

  one_held : Contains both (client_tx 1)
  one_held = (0, omega arith, refl)

  other_held : Contains both (client_tx 2)
  other_held = (1, omega arith, refl)

  pub hold_both : HoldBoth run
  hold_both = record {
    first = (finalised (client_tx 1) one_held 0 first_honest).0;
    second = (finalised (client_tx 2) other_held 0 first_honest).0;
    one = at_one_place (client_tx 1) one_held;
    other = at_one_place (client_tx 2) other_held;
  }
