use Rattle.std.proofs.Common.{refl}
use Rattle.replica_seat.specs.Seats.{meaning}
use Rattle.replay_run.proofs.Shown.{started}
use Rattle.replay_run.proofs.start.network_of.Goals as goal

pub returns : goal.returns
returns g c sealers fresh =
    let s = g.S.Sealer in
    started (meaning s.replica s.gives) c.args.plan.now
    (record { seats = c.args.seats.items; due = c.in_ok-due.due; queue = c.new.result.items; turns = 0; ticks = 0 })
    _ sealers c.as_slice.ensures.value fresh c.in_ok-due.ensures c.new.ensures.items refl refl
