use Rattle.quorum_cert.proofs.Formed.{formed_is_good}
use Rattle.quorum_cert.proofs.laws.formed_certificates_are_good.Goals as goal

pub returns : goal.returns
returns c = formed_is_good
