use Rattle.hss_seal.specs.Draws.{drawn_seeds}
use Rattle.hss_seal.proofs.MadeFit.{drawn_long}
use Rattle.hss_seal.proofs.TwoFit.{seal_fits}
use Rattle.hss_seal.proofs.laws.seals_fit.Goals as goal

pub returns-clause-all : goal.returns-clause-all
returns-clause-all c = seal_fits

pub returns-clause-drawn : goal.returns-clause-drawn
returns-clause-drawn c = λ s r lower number message. seal_fits (drawn_seeds s r) lower number message (drawn_long s r)
