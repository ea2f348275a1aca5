use Rattle.std.proofs.Common.{sym, ◌∙◌}
use Rattle.run_verdict.proofs.PartSearch.{forged_one, forged_none}
use Rattle.run_verdict.proofs.forgery.Search.in_message.Goals as goal

pub returns-in-Order : goal.returns-in-Order
returns-in-Order g c =
    let check = g.C.Checker.meaning c.args.self.now.checker.now in
    let run = c.args.self.now.run.now in
    rw c.in-Order.is (c.in_order.ensures ∙ sym (forged_one check run c.args.place.receiver c.args.place.entry 0 _))

pub returns-in-Fetch : goal.returns-in-Fetch
returns-in-Fetch g c =
    let check = g.C.Checker.meaning c.args.self.now.checker.now in
    let run = c.args.self.now.run.now in
    rw c.in-Fetch.is (sym (forged_none check run c.args.place.receiver c.args.place.entry 0))
