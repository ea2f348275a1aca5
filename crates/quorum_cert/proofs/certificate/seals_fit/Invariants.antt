use Rattle.std.proofs.Common.{◌≡◌, drop}
use Rattle.std.specs.List.{list_all}
use Rattle.quorum_cert.specs.Certificates.{seal_fits, seals_fit}
use Rattle.quorum_cert.proofs.certificate.seals_fit.Given as goal

abbrev pub invariant-loop-k : goal.invariant-loop-k
invariant-loop-k g l = seals_fit (g.C.Checker.meaning l.checker) l.cert ≡ list_all (seal_fits (g.C.Checker.meaning l.checker) l.cert) (drop l.k l.cert.votes)
