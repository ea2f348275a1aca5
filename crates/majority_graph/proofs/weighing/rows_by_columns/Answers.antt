use Rattle.std.proofs.Common.{◌≡◌, ◌<◌, ◌∙◌, ℕ, List, length, map, sym, subst, arith}
use Rattle.std.specs.Prelude.{All}
use Rattle.std.specs.List.{range_with_len}
use Rattle.std.proofs.lemmas.List.{length-map}
use Rattle.std.proofs.lemmas.List.Elements.{All-map}
use Rattle.majority_graph.specs.declared.edge.Edge.{Edge}
use Rattle.majority_graph.specs.Ranks.{column_of}
use Rattle.majority_graph.proofs.Mirror.{rows_known, rows_long}
use Rattle.majority_graph.proofs.RowEdges.{next_row}
use Rattle.majority_graph.proofs.weighing.rows_by_columns.Goals as goal

pub edges_from-requires-clause-columns : goal.edges_from-requires-clause-columns
edges_from-requires-clause-columns c =
    subst (All (λ (column : List ℕ). length column ≡ length c.loop-at.edges)) (sym c.requires.columns)
    (All-map (λ (column : List ℕ). length column ≡ length c.loop-at.edges) (column_of c.args.ranked.now) (range_with_len 0 (length c.args.columns.now))
    (λ k d within. length-map c.args.ranked.now _ ∙ sym c.loop-at.invariant.edges))

pub row_of-requires-clause-rows : goal.row_of-requires-clause-rows
row_of-requires-clause-rows c =
    let rows = c.loop-at.rows.items in
    let at = c.loop-at.at in
    let count : length rows ≡ at = rows_known c.args.threshold c.args.ranked.now rows at (omega arith) c.loop-at.invariant.rows in
    rw c.deref.ensures.value
    (subst (λ (n : ℕ). All (λ (row : List Edge). n < length row) (map (λ row. row.items) rows)) (sym count)
    (rows_long c.args.threshold c.args.ranked.now rows at (omega arith) c.loop-at.invariant.rows))

pub loop-at-preserved : goal.loop-at-preserved
loop-at-preserved c =
    let ranked = c.args.ranked.now in
    let lists = length c.args.columns.now in
    let long : length c.edges_from.new.edges ≡ length ranked = c.edges_from.auto.edges ∙ c.loop-at.invariant.edges in
    let edges = rw c.requires.columns at c.edges_from.ensures in
    record {
      rows = rw c.in_ok-push.ensures.items
          (next_row c.args.threshold ranked lists c.loop-at.rows.items c.in_ok-row_of.field-0 c.edges_from.new.edges c.loop-at.at
          c.requires.ascending c.requires.even (omega arith)
          c.loop-at.invariant.rows long (λ v low within. edges v low (omega (arith, within, long, c.loop-at.invariant.edges)))
          (rw c.deref.ensures.value at c.in_ok-row_of.ensures));
      forward = c.edges_from.auto.forward ∙ c.loop-at.invariant.forward;
      backward = c.edges_from.auto.backward ∙ c.loop-at.invariant.backward;
      edges = long;
    }
