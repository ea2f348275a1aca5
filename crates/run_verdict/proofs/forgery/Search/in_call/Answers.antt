use Rattle.std.proofs.Common.{◌≡◌, ◌+◌, [], ◌∷◌, length, Some, None, sym, ◌∙◌, arith}
use Rattle.std.proofs.lemmas.List.{length-map}
use Rattle.seq_base.specs.Spelling.{call_spelling}
use Rattle.run_verdict.specs.Parts.{part, cert_parts}
use Rattle.run_verdict.specs.Forged.{forged_from}
use Rattle.run_verdict.proofs.PartSearch.{forged_prefix, forged_after, forged_one}
use Rattle.run_verdict.proofs.forgery.Search.in_call.Goals as goal

pub returns-in-Some : goal.returns-in-Some
returns-in-Some g c =
    let check = g.C.Checker.meaning c.args.self.now.checker.now in
    let run = c.args.self.now.run.now in
    let found : forged_from check run c.args.place.receiver c.args.place.entry 0 (cert_parts c.args.call.now.cert) ≡ Some c.in-Some.forged =
    rw (← c.cert-cert.ensures) (sym c.in_cert.ensures ∙ c.in-Some.is) in
    sym (forged_prefix check run c.args.place.receiver c.args.place.entry 0 (cert_parts c.args.call.now.cert)
    (part c.args.call.now.replica (call_spelling c.args.call.now.kind c.args.call.now.replica c.args.call.now.view c.args.call.now.cert)
    c.args.call.now.seal ∷ []) c.in-Some.forged found)

pub returns : goal.returns
returns g c =
    let check = g.C.Checker.meaning c.args.self.now.checker.now in
    let run = c.args.self.now.run.now in
    let call = c.args.call.now in
    let own = part call.replica (call_spelling call.kind call.replica call.view call.cert) call.seal in
    let none : forged_from check run c.args.place.receiver c.args.place.entry 0 (cert_parts call.cert) ≡ None =
    rw (← c.cert-cert.ensures) (sym c.in_cert.ensures ∙ c.in_default.is) in
    let number : c.len.result ≡ 0 + length (cert_parts call.cert) = rw (length-map, c.len.ensures, c.cert-cert.ensures) (omega arith) in
    (rw (c.replica.ensures, c.statement.ensures, c.seal.ensures) at c.in_part.ensures)
    ∙ sym (forged_after check run c.args.place.receiver c.args.place.entry 0 c.len.result (cert_parts call.cert) (own ∷ []) none number
    ∙ forged_one check run c.args.place.receiver c.args.place.entry c.len.result own)
