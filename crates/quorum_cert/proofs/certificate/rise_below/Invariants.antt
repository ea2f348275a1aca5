use Rattle.std.proofs.Common.{◌≡◌, drop}
use Rattle.quorum_cert.specs.Certificates.{rise_below}
use Rattle.quorum_cert.proofs.certificate.rise_below.Given as goal

abbrev pub invariant-loop-k : goal.invariant-loop-k
invariant-loop-k l = rise_below l.n 0 l.cert.votes ≡ rise_below l.n l.least (drop l.k l.cert.votes)
