-- One more iteration of a loop over the replicas.
use Rattle.std.proofs.Common.{◌≡◌, ℕ, suc, ◌+◌, ◌-◌, ◌<◌, ◌||◌, ◌&&◌, true, false, ap, ◌∙◌, arith, max, if◌then◌else◌}
use Rattle.std.specs.List.{range_with_len}
use Rattle.count_set.specs.Sets.{is_among}
use Rattle.plan_text.specs.declared.plan.Plan.{Plan}
use Rattle.node_core.specs.Rows.{Check}
use Rattle.node_core.specs.declared.event.Event.TheVariants.{Tick}
use Rattle.replay_run.specs.World.{World}
use Rattle.replay_run.specs.Acting.{event_at}
use Rattle.replay_run.specs.Step.{done_over, floor_over, given_at, given_over, holds_due_at, replica_view, step, ticked_over}
use Rattle.replay_run.specs.Play.{run_for}

pub given_more : (fits : Check) (plan : Plan) (w : World) (at n : ℕ) → at < n
    → given_over fits plan w (range_with_len at (n - at)) ≡ given_over fits plan (given_at fits plan w at) (range_with_len (at + 1) (n - (at + 1)))
given_more fits plan w at n h =
    let e : n - at ≡ suc (n - (at + 1)) = omega arith in
    ap (λ k. given_over fits plan w (range_with_len at k)) e

pub ticked_more : (fits : Check) (plan : Plan) (floor : ℕ) (w : World) (at n : ℕ) → at < n
    → ticked_over fits plan floor w (range_with_len at (n - at))
    ≡ ticked_over fits plan floor (event_at fits plan w at (Tick floor)) (range_with_len (at + 1) (n - (at + 1)))
ticked_more fits plan floor w at n h =
    let e : n - at ≡ suc (n - (at + 1)) = omega arith in
    ap (λ k. ticked_over fits plan floor w (range_with_len at k)) e

pub done_more : (plan : Plan) (w : World) (at n : ℕ) → at < n
    → done_over plan w (range_with_len at (n - at))
    ≡ ((is_among plan.faulty at || holds_due_at w at) && done_over plan w (range_with_len (at + 1) (n - (at + 1))))
done_more plan w at n h =
    let e : n - at ≡ suc (n - (at + 1)) = omega arith in
    ap (λ k. done_over plan w (range_with_len at k)) e

pub floor_more : (plan : Plan) (w : World) (floor at n : ℕ) → at < n
    → floor_over plan w floor (range_with_len at (n - at))
    ≡ floor_over plan w (if is_among plan.faulty at then floor else max (replica_view w at) floor) (range_with_len (at + 1) (n - (at + 1)))
floor_more plan w floor at n h =
    let e : n - at ≡ suc (n - (at + 1)) = omega arith in
    ap (λ k. floor_over plan w floor (range_with_len at k)) e

pub run_more : (fits : Check) (plan : Plan) (w : World) (k n : ℕ) → k < n → (step fits plan w).goes_on ≡ true
    → run_for fits plan w (n - k) ≡ run_for fits plan (step fits plan w).world (n - (k + 1))
run_more fits plan w k n h on =
    let e : n - k ≡ suc (n - (k + 1)) = omega arith in
    ap (run_for fits plan w) e ∙ ap (λ b. if b then run_for fits plan (step fits plan w).world (n - (k + 1)) else (step fits plan w).world) on

pub run_over : (fits : Check) (plan : Plan) (w : World) (k n : ℕ) → k < n → (step fits plan w).goes_on ≡ false
    → run_for fits plan w (n - k) ≡ (step fits plan w).world
run_over fits plan w k n h off =
    let e : n - k ≡ suc (n - (k + 1)) = omega arith in
    ap (run_for fits plan w) e ∙ ap (λ b. if b then run_for fits plan (step fits plan w).world (n - (k + 1)) else (step fits plan w).world) off
