use Rattle.std.proofs.Common.{◌≡◌, ◌+◌, length, map, Some, None, sym, ◌∙◌, arith}
use Rattle.std.proofs.lemmas.List.{length-map}
use Rattle.run_verdict.specs.Parts.{cert_parts, order_part}
use Rattle.run_verdict.specs.Forged.{forged_from}
use Rattle.run_verdict.proofs.PartSearch.{forged_prefix, forged_after}
use Rattle.run_verdict.proofs.forgery.Search.in_block.Goals as goal

pub returns-in-Some : goal.returns-in-Some
returns-in-Some g c =
    let check = g.C.Checker.meaning c.args.self.now.checker.now in
    let run = c.args.self.now.run.now in
    let found : forged_from check run c.args.place.receiver c.args.place.entry 0 (cert_parts c.args.block.now.cert) ≡ Some c.in-Some.forged =
    rw (← c.cert-cert.ensures) (sym c.in_cert.ensures ∙ c.in-Some.is) in
    sym (forged_prefix check run c.args.place.receiver c.args.place.entry 0 (cert_parts c.args.block.now.cert)
    (map order_part c.args.block.now.orders) c.in-Some.forged found)

pub returns : goal.returns
returns g c =
    let check = g.C.Checker.meaning c.args.self.now.checker.now in
    let run = c.args.self.now.run.now in
    let block = c.args.block.now in
    let none : forged_from check run c.args.place.receiver c.args.place.entry 0 (cert_parts block.cert) ≡ None =
    rw (← c.cert-cert.ensures) (sym c.in_cert.ensures ∙ c.in_default.is) in
    let number : c.len.result ≡ 0 + length (cert_parts block.cert) = rw (length-map, c.len.ensures, c.cert-cert.ensures) (omega arith) in
    c.in_orders.ensures ∙ sym (forged_after check run c.args.place.receiver c.args.place.entry 0 c.len.result (cert_parts block.cert)
    (map order_part block.orders) none number)
