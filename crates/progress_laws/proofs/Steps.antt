-- Steps of a run without further arrivals: it ends when all is done, and otherwise delivers the oldest envelope.
use Rattle.std.proofs.Common.{◌≡◌, ℕ, suc, ◌+◌, ◌<◌, List, [], ◌∷◌, drop, true, false, Option, Some, None, refl, sym, ap, ◌∙◌}
use Rattle.std.specs.Prelude.{slice_get, slice_set}
use Rattle.std.specs.List.{fold}
use Rattle.std.specs.Option.{option_map_or}
use Rattle.plan_text.specs.declared.plan.Plan.{Plan}
use Rattle.node_core.specs.declared.event.Event.TheVariants.{Deliver}
use Rattle.node_core.specs.Rows.{Check}
use Rattle.replica_seat.specs.declared.seat.Envelope.{Envelope}
use Rattle.replica_seat.specs.declared.arrivals.TimedTx.{TimedTx}
use Rattle.replica_seat.specs.Feed.{count_by_now, arrived, after_giving}
use Rattle.replica_seat.specs.Seats.{Replica}
use Rattle.replay_run.specs.World.{World}
use Rattle.replay_run.specs.Acting.{event_at}
use Rattle.replay_run.specs.Step.{taken_at, arrived_at, reported_arrived, taken_for, given_at, give_arrivals, everyone, has_all_due, advanced, step, ended, going_on}
use Rattle.replay_run.specs.Play.{run_for}
use Rattle.progress_laws.proofs.StateSummary.{le_no}
use Rattle.progress_laws.proofs.Items.{set_same}

-- nothing arrives any more
abbrev pub NoneLeft : World → Type 0
NoneLeft w = (i : ℕ) (r : Replica) → slice_get w.replicas i ≡ Some r → r.feed.left ≡ []

fed_same : (turns : ℕ) (r : Replica) → r.feed.left ≡ [] → record r { feed = after_giving turns r.feed } ≡ r
fed_same turns r none = ap (λ (left : List TimedTx). record r { feed = record { txs = r.feed.txs; left = left } })
    (ap (λ (left : List TimedTx). drop (count_by_now turns left) left) none ∙ sym none)

module _ (fits : Check) (plan : Plan) where
  given_none : (w : World) (at : ℕ) → NoneLeft w → given_at fits plan w at ≡ w
  unfolding taken_at arrived_at
  given_none w at none = by (slice_get w.replicas at) refl
    where
      by : (o : Option Replica) → slice_get w.replicas at ≡ o
          → reported_arrived fits plan (taken_for w at o) at (option_map_or (λ r. arrived w.turns r.feed) o []) ≡ w
      by None is = refl
      by (Some r) is =
          let empty : arrived w.turns r.feed ≡ [] = rw (none at r is) in
          ap (reported_arrived fits plan (taken_for w at (Some r)) at) empty
          ∙ ap (λ (x : Replica). record w { replicas = slice_set w.replicas at x }) (fed_same w.turns r (none at r is))
          ∙ ap (λ (rs : List Replica). record w { replicas = rs }) (set_same w.replicas at r is)

  gives_none : (w : World) (replicas : List ℕ) → NoneLeft w → fold (given_at fits plan) w replicas ≡ w
  gives_none w [] none = refl
  gives_none w (at ∷ replicas) none = ap (λ (v : World). fold (given_at fits plan) v replicas) (given_none w at none) ∙ gives_none w replicas none

  pub no_arrivals : (w : World) → NoneLeft w → give_arrivals fits plan w ≡ w
  unfolding give_arrivals
  no_arrivals w none = gives_none w (everyone plan) none

  -- ---- a step

  pub step_done : (w : World) → NoneLeft w → has_all_due plan w ≡ true → step fits plan w ≡ ended w
  unfolding step
  step_done w none done = rw (no_arrivals w none, done)

  pub step_delivers : (w : World) (e : Envelope) (rest : List Envelope) → NoneLeft w → has_all_due plan w ≡ false → w.turns < plan.turns → w.queue ≡ e ∷ rest
      → step fits plan w ≡ going_on (event_at fits plan (record w { queue = rest; turns = w.turns + 1 }) e.to (Deliver e.from e.bytes))
  unfolding step advanced
  step_delivers w e rest none wants few queue = rw (no_arrivals w none, wants, le_no plan.turns w.turns few, queue)

  pub run_done : (w : World) (steps : ℕ) → NoneLeft w → has_all_due plan w ≡ true → run_for fits plan w (suc steps) ≡ w
  run_done w steps none done = rw (step_done w none done)

  pub run_delivers : (w : World) (steps : ℕ) (e : Envelope) (rest : List Envelope) → NoneLeft w → has_all_due plan w ≡ false
      → w.turns < plan.turns → w.queue ≡ e ∷ rest
      → run_for fits plan w (suc steps)
      ≡ run_for fits plan (event_at fits plan (record w { queue = rest; turns = w.turns + 1 }) e.to (Deliver e.from e.bytes)) steps
  run_delivers w steps e rest none wants few queue = rw (step_delivers w e rest none wants few queue)
