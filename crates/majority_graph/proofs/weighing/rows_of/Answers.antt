use Rattle.std.proofs.Common.{◌≡◌, ◌∙◌, length, ap, sym, arith}
use Rattle.majority_graph.specs.Ranks.{columns_by_list}
use Rattle.majority_graph.proofs.RowEdges.{columns_count}
use Rattle.majority_graph.proofs.weighing.rows_of.Goals as goal
use Rattle.majority_graph.proofs.weighing.rows_of.Goals.{After-deref}

count : (c : After-deref) → length c.in_ok-columns.columns.items ≡ c.args.lists
count c = columns_count c.args.ranked.now c.args.lists c.in_ok-columns.columns.items c.in_ok-columns.ensures

pub rows_by_columns-requires-clause-even : goal.rows_by_columns-requires-clause-even
rows_by_columns-requires-clause-even c =
    rw c.deref.ensures.value (λ k d inside. c.requires.even k d inside ∙ sym (count (goal.at.rows_by_columns-requires-clause-even c).After-deref))

pub rows_by_columns-requires-clause-few : goal.rows_by_columns-requires-clause-few
rows_by_columns-requires-clause-few c =
    rw c.deref.ensures.value (omega (arith, count (goal.at.rows_by_columns-requires-clause-few c).After-deref, c.in_ok-_most.ensures.fits))

pub rows_by_columns-requires-clause-columns : goal.rows_by_columns-requires-clause-columns
rows_by_columns-requires-clause-columns c =
    rw c.deref.ensures.value
    (c.in_ok-columns.ensures ∙ ap (columns_by_list c.args.ranked.now) (sym (count (goal.at.rows_by_columns-requires-clause-columns c).After-deref)))
