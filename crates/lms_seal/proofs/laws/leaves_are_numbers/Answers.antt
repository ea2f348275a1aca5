use Rattle.lms_seal.proofs.KeyLaws.{seal_leaf}
use Rattle.lms_seal.proofs.laws.leaves_are_numbers.Goals as goal

pub returns : goal.returns
returns c = seal_leaf
