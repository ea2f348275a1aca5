use Rattle.std.proofs.Common.{sym, ◌∙◌}
use Rattle.replica_seat.specs.Seats.{meaning}
use Rattle.replay_run.proofs.WaitingReplicas.{found_waiting, known_waiting}
use Rattle.replay_run.proofs.network.Network.all_hold_due.Goals as goal

pub returns-then-counts-clause-done : goal.returns-then-counts-clause-done
returns-then-counts-clause-done g c =
    known_waiting (meaning g.S.Sealer.replica g.S.Sealer.gives) c.args.plan.now _ _ c.self.inside.waiting c.self.view_is
    (c.self.invariant c.if-self.true) (sym c.counts.ensures ∙ c.if-counts.true)

pub invariant_of-self : goal.invariant_of-self
invariant_of-self g c _ =
    found_waiting (meaning g.S.Sealer.replica g.S.Sealer.gives) _ _ c.in-Some.at c.self.view_is (rw c.in-Some.is at c.in_ok-at.ensures.found)
