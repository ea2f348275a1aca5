use Rattle.std.proofs.Common.{map, get_or, ◌≡◌, refl, ◌∙◌, arith}
use Rattle.seq_base.specs.declared.tx.Tx.{Tx}
use Rattle.majority_graph.specs.Ranks.{place}
use Rattle.majority_graph.proofs.Places.{columns_long, ranked_more, row_of_columns}
use Rattle.majority_graph.proofs.ranks.rank_all.Goals as goal

pub places_at-requires : goal.places_at-requires
places_at-requires c = rw (c.deref.ensures.value, c.in_ok-columns.ensures) (columns_long c.args.lists.now c.args.txs.now c.loop-at.at (omega arith))

pub loop-at-preserved : goal.loop-at-preserved
loop-at-preserved c =
    let d : Tx = record { client = 0; number = 0; payload = 0 } in
    let txs = c.args.txs.now in
    let at = c.loop-at.at in
    let tx : Tx = get_or txs at d in
    let places : c.in_ok-places.places.items ≡ map (place tx) c.args.lists.now =
    (rw (c.deref.ensures.value, c.in_ok-columns.ensures) at c.in_ok-places.ensures) ∙ row_of_columns c.args.lists.now txs at tx d (omega arith) refl in
    rw c.in_ok-push.ensures.items (ranked_more c.args.lists.now txs at d c.loop-at.ranked.items c.in_ok-places.places
    (omega arith) places c.loop-at.invariant.0 c.loop-at.invariant.1)
