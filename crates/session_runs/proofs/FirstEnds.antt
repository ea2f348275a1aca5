-- The run: each replica has received both transactions, and its list holds the marker.
use Rattle.std.proofs.Common.{◌≡◌, ℕ, zero, suc, List, [], ◌∷◌, Option, Some, true, refl, sym, ap, subst, ◌∙◌, arith}
use Rattle.std.specs.Prelude.{slice_get}
use Rattle.std.specs.List.{Contains}
use Rattle.std.specs.Option.{option_map}
use Rattle.std.proofs.lemmas.Bool.{or_left, or_right}
use Rattle.std.proofs.lemmas.Option.{none-some, slice_get-map, slice_get-get_or, get_or_from_slice_get, same_Some}
use Rattle.seq_base.specs.declared.tx.Tx.{Tx}
use Rattle.seq_base.specs.Lists.{holds}
use Rattle.seq_base.proofs.Members.{place_holds}
use Rattle.fault_script.specs.Sealing.{Signer}
use Rattle.node_core.specs.Rows.{Check}
use Rattle.run_record.specs.Done.{is_finalised}
use Rattle.run_record.specs.declared.record.RunRecord.{RunRecord}
use Rattle.round_rules.proofs.Places.{found_at}
use Rattle.lawful_runs.proofs.Worlds.{Good, ends_good}
use Rattle.lawful_runs.specs.Honest.{IsRun, capacity_at}
use Rattle.lawful_runs.specs.Lawful.{AreMadeFor}
use Rattle.replay_run.specs.Play.{play_of, record_of, run_for, start_of, steps_of}
use Rattle.replica_seat.specs.Seats.{Replica}
use Rattle.replay_run.specs.World.{World}
use Rattle.journal_rules.specs.Records.{batches_in}
use Rattle.run_verdict.specs.Shown.{IsDone, IsDue, IsFinal, IsHonest}
use Rattle.session_rules.specs.Cuts.{marker}
use Rattle.session_runs.specs.TwoSessions.{marker_plan}
use Rattle.session_runs.proofs.MarkerPlan.{both, list_is}

-- a batch that stands in a list and holds a transaction
finalised_at : (batches : List (List Tx)) (k : ℕ) (batch : List Tx) (t : Tx) → slice_get batches k ≡ Some batch → holds t batch ≡ true
    → is_finalised batches t ≡ true
finalised_at [] k batch t found held = absurd (none-some batch found)
finalised_at (b ∷ batches) zero batch t found held = or_left (holds t b) (is_finalised batches t) (ap (holds t) (same_Some b batch found) ∙ held)
finalised_at (b ∷ batches) (suc k) batch t found held = or_right (holds t b) (is_finalised batches t) (finalised_at batches k batch t found held)

finalised_if : (batches : List (List Tx)) (t : Tx) → IsFinal batches t → is_finalised batches t ≡ true
finalised_if batches t final =
    finalised_at batches final.1.0 final.0 t (slice_get-get_or batches final.1.0 final.0 final.1.1 ∙ ap Some final.1.2)
    (place_holds final.0 final.2.0 t (slice_get-get_or final.0 final.2.0 t final.2.1 ∙ ap Some final.2.2))

module _ (fits : Check) (sealers : List Signer) (made : AreMadeFor marker_plan sealers) (done : IsDone (play_of fits marker_plan sealers)) where
  abbrev world : World
  world = run_for fits marker_plan (start_of marker_plan sealers) (steps_of marker_plan)

  abbrev run : RunRecord
  run = play_of fits marker_plan sealers

  good : Good fits marker_plan (capacity_at sealers) world
  good = ends_good fits marker_plan sealers (steps_of marker_plan) made

  replica_at : (r : ℕ) → IsHonest run r → (x : Replica) × (slice_get world.replicas r ≡ Some x) × (x.feed.txs ≡ both)
  unfolding record_of
  replica_at r honest =
      let found = found_at world.replicas r (omega (arith, good.count, honest.below)) in
      let is : IsRun fits marker_plan r (capacity_at sealers r) found.0 = good.runs r found.0 found.1 honest.correct in
      (found.0, found.1, is.list ∙ list_is found.0.number is.below)

  first_honest : IsHonest run 0
  unfolding record_of
  first_honest = record { below = omega arith; correct = refl }

  arrived : (r : ℕ) → IsHonest run r → slice_get run.arrivals r ≡ Some both
  unfolding record_of
  arrived r honest =
      let (x, found, is) = replica_at r honest in
      slice_get-map (λ (y : Replica). y.feed.txs) world.replicas r
      ∙ ap (λ (o : Option Replica). option_map (λ (y : Replica). y.feed.txs) o) found
      ∙ ap Some is

  due : IsDue run (marker 0)
  due = record {
    some = (0, both, record { honest = first_honest; is = arrived 0 first_honest });
    every = λ r list is.
        (let same : both ≡ list = same_Some both list (sym (arrived r is.honest) ∙ is.is) in
        subst (λ (l : List Tx). Contains l (marker 0)) same (0, omega arith, refl));
  }

  pub marked : (r : ℕ) → IsHonest run r → is_finalised (batches_in run r) (marker 0) ≡ true
  marked r honest =
      let ended = done r honest in
      subst (λ (batches : List (List Tx)). is_finalised batches (marker 0) ≡ true)
      (sym (get_or_from_slice_get run.batches r ended.batches [] ended.is))
      (finalised_if ended.batches (marker 0) (ended.every (marker 0) due))

  pub setting_is : run.setting ≡ marker_plan.setting
  unfolding record_of
  setting_is = refl

  pub faulty_is : run.faulty ≡ []
  unfolding record_of
  faulty_is = refl
