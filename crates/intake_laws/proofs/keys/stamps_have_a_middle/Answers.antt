use Rattle.intake_laws.proofs.Counting.{middle}
use Rattle.intake_laws.proofs.keys.stamps_have_a_middle.Goals as goal

pub returns : goal.returns
returns c = middle
