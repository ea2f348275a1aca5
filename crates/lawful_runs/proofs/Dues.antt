-- If a run's last world is done, so is its record.
use Rattle.std.proofs.Common.{◌≡◌, ℕ, zero, suc, ◌+◌, ◌<◌, ◌≤◌, List, map, length, Bool, true, false, Option, Some, None, refl, sym, ◌∙◌, arith, inl, inr}
use Rattle.std.specs.Prelude.{slice_get, ◌||◌}
use Rattle.std.specs.List.{list_all, range_with_len}
use Rattle.std.specs.Option.{option_map_or}
use Rattle.std.proofs.lemmas.Bool.{cases_Bool}
use Rattle.std.proofs.lemmas.Option.{slice_get-map}
use Rattle.seq_base.specs.declared.tx.Tx.{Tx}
use Rattle.count_set.specs.Sets.{is_among}
use Rattle.fault_script.specs.Sealing.{Signer}
use Rattle.run_record.specs.declared.verdict.Verdict.TheVariants.{Stalled}
use Rattle.run_record.specs.declared.verdict.ForgedAt.{ForgedAt}
use Rattle.run_record.specs.declared.verdict.CollidedAt.{CollidedAt}
use Rattle.run_record.specs.Done.{due_of, hold_all}
use Rattle.node_core.specs.Rows.{Check}
use Rattle.plan_text.specs.declared.plan.Plan.{Plan}
use Rattle.replica_seat.specs.Seats.{holds_due}
use Rattle.replica_seat.specs.Showing.{batches_of}
use Rattle.replay_run.specs.World.{World}
use Rattle.replay_run.specs.Step.{holds_due_at, has_all_due}
use Rattle.replay_run.specs.Play.{play_of, record_of}
use Rattle.replay_run.specs.Over.{IsOver, last_of}
use Rattle.run_verdict.specs.Forged.{first_forged_of}
use Rattle.run_verdict.specs.Collided.{first_collision_of}
use Rattle.run_verdict.specs.Verdicts.{is_record_done, audited, verdict_of}
use Rattle.lawful_runs.specs.Spent.{WasSpent}
use Rattle.round_rules.proofs.Places.{found_at}

-- a list of batches holds what is due, where there is one
abbrev has_all : List Tx → Option (List (List Tx)) → Bool
has_all due batches = option_map_or (λ batches. hold_all batches due) batches false

module _ (plan : Plan) (w : World) where
  -- the replica at a place holds all that is due, and so does its list in the record
  one_holds : (at : ℕ) → at < length w.replicas → (is_among plan.faulty at || holds_due_at w at) ≡ true
      → (is_among plan.faulty at || has_all w.due (slice_get (map batches_of w.replicas) at)) ≡ true
  unfolding holds_due
  one_holds at inside holds =
      let found = found_at w.replicas at inside in
      elim (cases_Bool (is_among plan.faulty at)) [
        | inl faulty ↦ rw faulty refl
        | inr honest ↦
            let held : holds_due_at w at ≡ true = rw honest at holds in
            let its : hold_all (batches_of found.0) w.due ≡ true = rw found.1 at held in
            rw honest (rw (slice_get-map batches_of w.replicas at) (rw found.1 its))
      ]

  each_holds : (at count : ℕ) → at + count ≤ length w.replicas
      → list_all (λ k. is_among plan.faulty k || holds_due_at w k) (range_with_len at count) ≡ true
      → list_all (λ k. is_among plan.faulty k || has_all w.due (slice_get (map batches_of w.replicas) k)) (range_with_len at count) ≡ true
  each_holds at zero within all = refl
  each_holds at (suc count) within all = elim (cases_Bool (is_among plan.faulty at || holds_due_at w at)) [
    | inl here ↦ rw (one_holds at (omega (arith, within)) here) (each_holds (at + 1) count (omega (arith, within)) (rw here at all))
    | inr not_here ↦ let wrong = rw not_here at all in absurd (cc)
  ]

  pub record_is_done : length w.replicas ≡ plan.setting.n → w.due ≡ due_of plan.setting.n plan.faulty (map (λ r. r.feed.txs) w.replicas)
      → has_all_due plan w ≡ true
      → is_record_done (record_of plan w) ≡ true
  unfolding has_all_due is_record_done record_of
  record_is_done count due done = rw (sym due) (each_holds 0 plan.setting.n (omega (arith, count)) done)

stalled_not_done : (forged : Option ForgedAt) (collided : Option CollidedAt) (done : Bool) → audited forged collided done ≡ Stalled → done ≡ false
stalled_not_done forged collided false is = refl
stalled_not_done (Some at) collided true is = absurd (cc)
stalled_not_done None (Some at) true is = absurd (cc)
stalled_not_done None None true is = absurd (cc)

pub stalled_was_spent : (fits : Check) (plan : Plan) (sealers : List Signer) → length sealers ≡ plan.setting.n → IsOver plan (last_of fits plan sealers)
    → (last_of fits plan sealers).due ≡ due_of plan.setting.n plan.faulty (map (λ r. r.feed.txs) (last_of fits plan sealers).replicas)
    → length (last_of fits plan sealers).replicas ≡ length sealers
    → verdict_of fits (play_of fits plan sealers) ≡ Stalled → WasSpent plan (last_of fits plan sealers) (play_of fits plan sealers)
unfolding verdict_of record_of
stalled_was_spent fits plan sealers made over due count stalled = elim over [
  | inl done ↦
      let run = play_of fits plan sealers in
      let open_yet : is_record_done run ≡ false = stalled_not_done (first_forged_of fits run) (first_collision_of run) (is_record_done run) stalled in
      let closed : is_record_done run ≡ true = record_is_done plan (last_of fits plan sealers) (count ∙ made) due done in
      absurd (cc)
  | inr spent ↦ spent
]
