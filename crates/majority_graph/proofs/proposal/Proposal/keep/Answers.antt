use Rattle.majority_graph.proofs.Wanted.{IsGraph-kept_of}
use Rattle.majority_graph.proofs.proposal.Proposal.keep.Goals as goal

pub wanted_rows-requires-clause-columns : goal.wanted_rows-requires-clause-columns
wanted_rows-requires-clause-columns c =
    let long = rw (← c.self.view_is) at c.requires in
    rw (c.deref.ensures.value, long) c.self.invariant.columns

pub of-requires-2 : goal.of-requires-2
of-requires-2 c =
    let kept = IsGraph-kept_of c.args.wanted.now _ c.self.invariant in
    rw (c.of.ensures, c.in_ok-vertices.ensures, c.as_slice.ensures, c.in_ok-rows.ensures, c.deref.ensures.value) kept
