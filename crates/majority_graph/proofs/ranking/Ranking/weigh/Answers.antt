use Rattle.std.proofs.Common.{◌∙◌, subst, sym}
use Rattle.majority_graph.specs.Graph.{IsGraph}
use Rattle.majority_graph.proofs.ranking.Ranking.weigh.Goals as goal

pub of-requires-2 : goal.of-requires-2
of-requires-2 c =
    rw (c.of.ensures, c.in_ok-vertices.ensures, c.deref-2.ensures.value, c.in_ok-rows.ensures, c.deref.ensures.value)
    (subst IsGraph (sym c.self.view_is) c.requires)

pub returns : goal.returns
returns c =
    c.of-2.ensures
    ∙ rw (c.of.ensures, c.in_ok-vertices.ensures, c.deref-2.ensures.value, c.in_ok-rows.ensures, c.deref.ensures.value) c.self.view_is
