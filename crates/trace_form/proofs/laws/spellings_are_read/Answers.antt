use Rattle.trace_form.proofs.Whole.{read_again}
use Rattle.trace_form.proofs.laws.spellings_are_read.Goals as goal

pub returns : goal.returns
returns c = read_again
