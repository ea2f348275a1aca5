use Rattle.lms_seal.proofs.KeyLaws.{key_fits, seal_fits}
use Rattle.lms_seal.proofs.laws.signatures_fit.Goals as goal

pub returns-clause-leaves : goal.returns-clause-leaves
returns-clause-leaves c = key_fits

pub returns-clause-numbers : goal.returns-clause-numbers
returns-clause-numbers c = seal_fits
