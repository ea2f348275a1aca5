use Rattle.run_verdict.proofs.Collisions.{first_collision_is}
use Rattle.run_verdict.proofs.laws.the_first_collision_is_reported.Goals as goal

pub returns : goal.returns
returns c = λ run reported found. first_collision_is run reported found
