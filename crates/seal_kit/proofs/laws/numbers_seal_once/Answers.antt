use Rattle.seal_kit.proofs.Numbers.{seal_once}
use Rattle.seal_kit.proofs.laws.numbers_seal_once.Goals as goal

pub returns : goal.returns
returns c = seal_once
