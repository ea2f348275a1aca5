use Rattle.majority_graph.specs.declared.edge.Edge.TheVariants.{To, From}
use Rattle.majority_graph.proofs.Pairs.{changes_pair_as, IsGraph-with_pair}
use Rattle.majority_graph.proofs.proposal.Proposal.set_edge.Goals as goal
use Rattle.majority_graph.proofs.proposal.Proposal.set_edge.Goals.{then-to, else-to}

pub invariant_of-self : goal.invariant_of-self
invariant_of-self c =
    let from = rw (← c.self.view_is) at c.requires.from in
    let to = rw (← c.self.view_is) at c.requires.to in
    rw c.set_pair.ensures (IsGraph-with_pair _ c.args.u c.args.v c.if-to.edge c.self.invariant from to c.requires.pair)

pub returns : goal.returns
returns c =
    let from = rw (← c.self.view_is) at c.requires.from in
    let to = rw (← c.self.view_is) at c.requires.to in
    rw (c.set_pair.ensures, ← c.self.view_is)
    (elim c.if-to.branch [
      | then-to w ↦ rw w.if-to.true (changes_pair_as _ c.args.u c.args.v c.if-to.edge c.self.invariant from to c.requires.pair To w.edge-is)
      | else-to w ↦ rw w.if-to.false (changes_pair_as _ c.args.u c.args.v c.if-to.edge c.self.invariant from to c.requires.pair From w.edge-is)
    ])
