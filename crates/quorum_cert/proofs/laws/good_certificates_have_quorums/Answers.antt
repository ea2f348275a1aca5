use Rattle.quorum_cert.proofs.Good.{good_shows, good_holds}
use Rattle.quorum_cert.proofs.laws.good_certificates_have_quorums.Goals as goal

pub returns : goal.returns
returns c = λ fits s cert. (good_shows fits s cert, good_holds fits s cert)
