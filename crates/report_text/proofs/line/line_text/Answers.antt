use Rattle.std.proofs.Common.{◌∙◌}
use Rattle.report_text.proofs.Lined.{printed_lines}
use Rattle.report_text.proofs.line.line_text.Goals as goal

pub returns-clause-text : goal.returns-clause-text
returns-clause-text c =
    (rw c.into_bytes.ensures.value at c.of.ensures)
    ∙ printed_lines c.args.setting.now c.args.lists.now c.in_ok-pair.pair c.in_ok-classes.classes c.in_ok-proposal.proposal c.as_slice.result.now _ _ _ _
    c.in_ok-classes.ensures.tally c.in_ok-proposal.ensures.proposal c.as_slice.ensures.value c.in_ok-classes.ensures.counts c.in_ok-classes.ensures.classes
    c.new-text.ensures.bytes c.in_ok-write_counts.ensures c.in_ok-write_classes.ensures c.in_ok-pair.ensures.text
