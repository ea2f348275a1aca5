use Rattle.std.proofs.Common.{sym, ◌∙◌}
use Rattle.run_verdict.specs.First.{counted}
use Rattle.run_verdict.specs.Forged.{forged_in_entry}
use Rattle.run_verdict.proofs.PartSearch.{forged_none}
use Rattle.run_verdict.proofs.forgery.Search.in_entry.Goals as goal

pub returns-in-None : goal.returns-in-None
unfolding forged_in_entry
returns-in-None g c =
    let check = g.C.Checker.meaning c.args.self.now.checker.now in
    let run = c.args.self.now.run.now in
    rw (sym c.delivered.ensures.value ∙ c.in-None.is) (sym (forged_none check run c.args.receiver (counted c.args.at) 0))

pub returns-in-Some : goal.returns-in-Some
unfolding forged_in_entry
returns-in-Some g c =
    rw (sym c.delivered.ensures.value ∙ c.in-Some.is) (rw c.number_of.ensures at c.in_message.ensures)
