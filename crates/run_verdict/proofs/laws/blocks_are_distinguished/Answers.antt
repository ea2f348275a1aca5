use Rattle.run_verdict.proofs.Collisions.{distinguished}
use Rattle.run_verdict.proofs.laws.blocks_are_distinguished.Goals as goal

pub returns : goal.returns
returns c = λ run never. distinguished run never
