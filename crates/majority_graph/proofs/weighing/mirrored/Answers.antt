use Rattle.std.proofs.Common.{List, get_or, length, ◌<◌, ◌∙◌, ap, arith}
use Rattle.std.proofs.lemmas.List.{get_or_default}
use Rattle.majority_graph.specs.declared.edge.Edge.{Edge}
use Rattle.majority_graph.specs.declared.edge.Edge.TheVariants.{Missing}
use Rattle.majority_graph.specs.Edges.{opposite_of}
use Rattle.majority_graph.proofs.Rows.{item_long, read_more}
use Rattle.majority_graph.proofs.weighing.mirrored.Goals as goal

pub index-requires : goal.index-requires
index-requires c = item_long c.args.rows.now (length c.args.rows.now) c.loop-known.known-index c.known-item.result c.requires (omega arith) c.known-item.is

pub loop-known-preserved : goal.loop-known-preserved
loop-known-preserved c =
    let known = c.known-item.result in
    let count = length c.args.rows.now in
    let within : count < length known.items =
    omega (arith, item_long c.args.rows.now count c.loop-known.known-index known c.requires (omega arith) c.known-item.is, known.ok.0) in
    c.in_ok-push.ensures.items
    ∙ read_more (λ (xs : List Edge). opposite_of (get_or xs count Missing)) c.args.rows.now c.loop-known.known-index known
    c.loop-known.row.items _ (omega arith) c.known-item.is
    (c.opposite.ensures ∙ ap opposite_of (c.index.ensures ∙ get_or_default known.items count _ Missing within)) c.loop-known.invariant
