use Rattle.std.proofs.Common.{ap, ◌∙◌}
use Rattle.trace_form.specs.Contents.{contents_of, bared}
use Rattle.trace_form.specs.Form.{read_of}
use Rattle.trace_form.proofs.Whole.{read_again, spelled_once}
use Rattle.trace_form.proofs.laws.what_is_written_is_read.Goals as goal

pub returns : goal.returns
returns c = λ run span bytes t.
    let once = spelled_once (contents_of run span) bytes t in
    (once, ap read_of once ∙ read_again (bared run span) bytes t)
