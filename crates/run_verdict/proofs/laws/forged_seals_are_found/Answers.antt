use Rattle.run_verdict.proofs.Firsts.{none_forged, no_place}
use Rattle.run_verdict.proofs.laws.forged_seals_are_found.Goals as goal

pub returns : goal.returns
returns c = λ check run. (no_place check run, none_forged check run)
