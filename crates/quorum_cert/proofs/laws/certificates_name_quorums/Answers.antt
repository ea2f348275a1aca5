use Rattle.quorum_cert.proofs.Formed.{names_quorum}
use Rattle.quorum_cert.proofs.laws.certificates_name_quorums.Goals as goal

pub returns : goal.returns
returns c = names_quorum
