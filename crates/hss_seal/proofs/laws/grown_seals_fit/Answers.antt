use Rattle.hss_seal.proofs.GrownFit.{grown_fits}
use Rattle.hss_seal.proofs.laws.grown_seals_fit.Goals as goal

pub returns : goal.returns
returns c = grown_fits
