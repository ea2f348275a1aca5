use Rattle.std.proofs.Common.{◌<◌, length, arith, ap, ◌∙◌}
use Rattle.majority_graph.specs.Graph.{wanted_of}
use Rattle.majority_graph.proofs.Rows.{row_length}
use Rattle.majority_graph.proofs.Wanted.{row_kept, row_left}
use Rattle.majority_graph.proofs.proposal.wanted_rows.Goals as goal
use Rattle.majority_graph.proofs.proposal.wanted_rows.Goals.{then-is_wanted+in_ok-wanted_items+in_ok-push, else-is_wanted}

pub wanted_items-requires : goal.wanted_items-requires
wanted_items-requires c =
    let row = c.index-rows-at.result in
    let inside : c.loop-at.at < length c.args.rows.now = omega (arith, c.requires.rows) in
    omega (arith, row_length c.args.rows.now (length c.args.wanted.now) c.loop-at.at row c.requires.columns inside c.index-rows-at.is, c.deref.ensures.len)

pub loop-at-preserved : goal.loop-at-preserved
loop-at-preserved c =
    elim c.if-is_wanted.branch [
      | then-is_wanted+in_ok-wanted_items+in_ok-push w ↦
          rw w.kept-is (row_kept c.args.wanted.now c.args.rows.now c.loop-at.kept.items _ c.loop-at.at w.index-rows-at.result w.in_ok-wanted_items.field-0
          (omega arith) (omega (arith, c.requires.rows)) w.if-is_wanted.true w.index-rows-at.is w.in_ok-push.ensures.items
          (w.in_ok-wanted_items.ensures ∙ ap (wanted_of c.args.wanted.now) w.deref.ensures.value) c.loop-at.invariant)
      | else-is_wanted w ↦ rw w.kept-is
          (row_left c.args.wanted.now c.args.rows.now c.loop-at.kept.items c.loop-at.at (omega arith) w.if-is_wanted.false c.loop-at.invariant)
    ]
