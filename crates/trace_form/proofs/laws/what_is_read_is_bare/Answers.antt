use Rattle.trace_form.proofs.Bare.{is_bare}
use Rattle.trace_form.proofs.laws.what_is_read_is_bare.Goals as goal

pub returns : goal.returns
returns c = is_bare
