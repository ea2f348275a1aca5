use Rattle.run_verdict.proofs.Firsts.{fitting_was_sealed}
use Rattle.run_verdict.proofs.laws.what_fits_was_sealed.Goals as goal

pub returns : goal.returns
returns c = λ check run never. fitting_was_sealed check run never
