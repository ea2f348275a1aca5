use Rattle.std.proofs.Common.{sym, ap, subst, ◌∙◌}
use Rattle.majority_graph.specs.Graph.{IsGraph}
use Rattle.chain_state.specs.Standings.Stage.{Closed}
use Rattle.chain_state.proofs.GraphStages.{incomplete, closed-stage}
use Rattle.chain_state.proofs.standing.Standing.of.Goals as goal

pub of-requires : goal.of-requires
of-requires c =
    let cause = rw c.in-Err-Incomplete.field-0-is at c.in-Err-Incomplete.ensures.cause in
    incomplete c.args.graph _ _ (subst IsGraph c.graph.view_is c.graph.invariant) cause

pub returns-in_ok-new-in-Ok : goal.returns-in_ok-new-in-Ok
returns-in_ok-new-in-Ok c =
    ap Closed (c.in_ok-new-in-Ok.ensures.ok ∙ c.in-Ok.ensures.batches)
    ∙ sym (closed-stage c.args.graph (subst IsGraph c.graph.view_is c.graph.invariant) c.in-Ok.ensures.complete)
