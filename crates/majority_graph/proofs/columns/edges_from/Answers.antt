use Rattle.std.proofs.Common.{◌≡◌, ◌<◌, ◌≤◌, ◌∙◌, ℕ, List, length, get_or, map, ap, arith, ltb}
use Rattle.std.proofs.lemmas.List.{length-set}
use Rattle.majority_graph.specs.Edges.{edge_upward}
use Rattle.majority_graph.specs.Ranks.{column_edge, columns_ahead}
use Rattle.majority_graph.proofs.RowEdges.{edge_written}
use Rattle.majority_graph.proofs.columns.edges_from.Goals as goal

pub loop-at-preserved : goal.loop-at-preserved
loop-at-preserved c =
    let columns : List (List ℕ) = map (λ column. column.items) c.args.columns.now in
    let t = c.args.threshold in
    let from = c.args.from in
    let at = c.loop-at.at in
    let low : from ≤ at = c.loop-at.invariant.from in
    let within : at < length c.args.forward.now = omega (arith, c.loop-at-test.true, c.requires.forward, c.loop-at.auto.edges) in
    let here : c.edge_upward.result ≡ column_edge t columns from at =
    c.edge_upward.ensures
    ∙ ap (λ (n : ℕ). edge_upward t n (get_or c.weigh_from.new.backward at 0) (ltb from at)) (c.weigh_from.ensures.forward at low within)
    ∙ ap (λ (n : ℕ). edge_upward t (columns_ahead columns from at) n (ltb from at)) (c.weigh_from.ensures.backward at low within) in
    record {
      done = edge_written (column_edge t columns from) c.loop-at.edges from at c.edge_upward.result (omega arith) here c.loop-at.invariant.done;
      from = omega (arith, low);
      long = length-set c.loop-at.edges at c.edge_upward.result ∙ c.loop-at.invariant.long;
    }
