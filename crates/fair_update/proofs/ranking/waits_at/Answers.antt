use Rattle.std.proofs.Common.{rules, ◌≡◌, sym, arith}
use Rattle.majority_graph.specs.Graph.{edge_at}
use Rattle.majority_graph.specs.declared.edge.Edge.TheVariants.{Missing}
use Rattle.fair_update.proofs.GraphTests.{waits_decides, none_waits}
use Rattle.fair_update.proofs.ranking.waits_at.Goals as goal

pub returns-then-eq : goal.returns-then-eq
returns-then-eq c =
    let missing : edge_at c.args.proposal.now c.args.u c.loop-v.v ≡ Missing = search rules in
    sym ((waits_decides c.args.proposal.now c.loop-v.invariant.graph c.args.tx).1 (
      c.args.u,
      c.loop-v.v,
      record {
        from = c.requires;
        to = omega (arith, c.loop-v.invariant.count);
        apart = c.if-u-v.true;
        missing = missing;
      },
    ))

pub returns : goal.returns
returns c =
    sym (none_waits c.args.proposal.now c.loop-v.invariant.graph c.args.u c.args.tx c.requires
    (λ y inside apart. c.loop-v.invariant.given y (omega (arith, inside, c.loop-v.invariant.count)) apart))
