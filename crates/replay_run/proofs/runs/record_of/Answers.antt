use Rattle.replica_seat.specs.Seats.{meaning}
use Rattle.replay_run.proofs.Shown.{record_made}
use Rattle.replay_run.proofs.runs.record_of.Goals as goal

pub returns : goal.returns
returns g c = record {
  shown = record_made (meaning g.S.Sealer.replica g.S.Sealer.gives) c.args.plan.now _ _ _ _ _ _ _ _ _ c.network.view_is
      c.as_slice.ensures.value c.as_slice-2.ensures.value c.as_slice-3.ensures.value
      c.in_ok-arrivals.ensures c.in_ok-heads.ensures c.in_ok-batches.ensures c.in_ok-journals.ensures.shown;
  readable = c.in_ok-journals.ensures.readable;
}
