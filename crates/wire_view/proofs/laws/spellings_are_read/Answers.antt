use Rattle.wire_view.proofs.Whole.{read_again}
use Rattle.wire_view.proofs.laws.spellings_are_read.Goals as goal

pub returns : goal.returns
returns c = read_again
