use Rattle.std.proofs.Common.{◌++◌, ℕ, List, ap, ◌∙◌}
use Rattle.trace_form.specs.Contents.{contents_of, span_of}
use Rattle.trace_form.specs.Spelling.{contents_spelling}
use Rattle.trace_form.proofs.Whole.{spelled_once}
use Rattle.trace_form.proofs.writing.write_trace.Goals as goal

pub returns-clause-only : goal.returns-clause-only
returns-clause-only c = λ spelled t.
    let contents = contents_of c.args.run.now (span_of c.args.views c.args.keys.now c.args.height) in
    c.of.ensures ∙ c.in_ok-put_contents.ensures ∙ ap (λ (z : List ℕ). z ++ contents_spelling contents) c.new-out.ensures.items ∙ spelled_once contents spelled t
