use Rattle.std.proofs.Common.{◌≡◌, drop, false}
use Rattle.node_core.specs.Runs.{opening_state, state_after}
use Rattle.durable_node.proofs.opening.replayed.Given as goal

abbrev pub invariant-loop-event : goal.invariant-loop-event
invariant-loop-event g l = record {
  state : state_after (g.C.Checker.meaning l.checker) (g.S.Sealer.gives l.node.sealer) l.node.state (drop l.event-index l.events)
      ≡ state_after (g.C.Checker.meaning l.checker) (g.S.Sealer.gives l.fn.sealer)
      (opening_state l.fn.setting l.views (g.S.Sealer.replica l.fn.sealer) (g.S.Sealer.capacity l.fn.sealer)) l.events;
  gives : g.S.Sealer.gives l.node.sealer ≡ g.S.Sealer.gives l.fn.sealer;
  replica : g.S.Sealer.replica l.node.sealer ≡ g.S.Sealer.replica l.fn.sealer;
  running : l.node.halted ≡ false;
}
