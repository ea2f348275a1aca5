use Rattle.std.proofs.Common.{refl, ap, ◌∙◌}
use Rattle.majority_graph.specs.Graph.{Graph, edge_at}
use Rattle.majority_graph.proofs.EdgeLaws.{IsGraph-graph_of, edge_of_places}
use Rattle.majority_graph.proofs.weighing.weigh.Goals as goal

pub of-requires : goal.of-requires
of-requires c =
    rw (c.in_ok-edges.ensures, c.as_slice.ensures) (IsGraph-graph_of c.args.setting.now c.args.lists.now c.args.vertices c.requires.ascending c.requires.few)

pub returns-clause-graph : goal.returns-clause-graph
returns-clause-graph c = c.of.ensures ∙ rw (c.in_ok-edges.ensures, c.as_slice.ensures) refl

pub returns-clause-edges : goal.returns-clause-edges
returns-clause-edges c = λ u v a b from to.
    ap (λ (g : Graph). edge_at g u v) (returns-clause-graph c) ∙ edge_of_places c.args.setting.now c.args.lists.now c.args.vertices u v a b from to
