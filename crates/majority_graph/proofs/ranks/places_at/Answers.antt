use Rattle.std.proofs.Common.{List, ℕ, get_or, length, ◌<◌, ◌∙◌, arith}
use Rattle.std.proofs.lemmas.List.{get_or_default}
use Rattle.majority_graph.proofs.Rows.{item_long, read_more}
use Rattle.majority_graph.proofs.ranks.places_at.Goals as goal

pub index-requires : goal.index-requires
index-requires c = item_long c.args.columns.now c.args.at c.loop-column.column-index c.column-item.result c.requires (omega arith) c.column-item.is

pub loop-column-preserved : goal.loop-column-preserved
loop-column-preserved c =
    let column = c.column-item.result in
    let at = c.args.at in
    let within : at < length column.items =
    omega (arith, item_long c.args.columns.now at c.loop-column.column-index column c.requires (omega arith) c.column-item.is, column.ok.0) in
    c.in_ok-push.ensures.items
    ∙ read_more (λ (xs : List ℕ). get_or xs at 0) c.args.columns.now c.loop-column.column-index column c.loop-column.places.items
    _ (omega arith) c.column-item.is
    (c.in_ok-narrowed.ensures.value ∙ c.index.ensures ∙ get_or_default column.items at _ 0 within) c.loop-column.invariant
