use Rattle.trace_form.proofs.Whole.{found, of_slice}
use Rattle.trace_form.proofs.laws.what_is_read_is_spelled.Goals as goal

pub returns : goal.returns
returns c = λ bytes trace each read. found bytes trace (of_slice bytes each) read
