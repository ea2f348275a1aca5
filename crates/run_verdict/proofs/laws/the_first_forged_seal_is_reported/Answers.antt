use Rattle.run_verdict.proofs.Firsts.{first_is}
use Rattle.run_verdict.proofs.laws.the_first_forged_seal_is_reported.Goals as goal

pub returns : goal.returns
returns c = λ check run reported found. first_is check run reported found
