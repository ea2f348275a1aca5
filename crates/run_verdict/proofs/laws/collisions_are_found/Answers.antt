use Rattle.run_verdict.proofs.Collisions.{no_collision, none_collided}
use Rattle.run_verdict.proofs.laws.collisions_are_found.Goals as goal

pub returns : goal.returns
returns c = λ run. (no_collision run, none_collided run)
