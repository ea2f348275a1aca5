use Rattle.std.proofs.Common.{◌≡◌, map, drop}
use Rattle.run_verdict.specs.Forged.{forged_from}
use Rattle.run_verdict.specs.Parts.{cert_parts, vote_part}
use Rattle.run_verdict.proofs.forgery.Search.in_cert.Given as goal

abbrev pub invariant-loop-k : goal.invariant-loop-k
invariant-loop-k g l =
    let search = forged_from (g.C.Checker.meaning l.self.checker.now) l.self.run.now l.place.receiver l.place.entry in
    search l.k (map (vote_part l.cert) (drop l.k l.cert.votes)) ≡ search 0 (cert_parts l.cert)
