use Rattle.std.proofs.Common.{sym, ◌∙◌}
use Rattle.seq_base.specs.Spelling.{vote_spelling}
use Rattle.run_verdict.specs.Parts.{part, carried_parts, order_part}
use Rattle.run_verdict.proofs.PartSearch.{forged_first, forged_others, forged_one, forged_none}
use Rattle.run_verdict.proofs.forgery.Search.in_vote.Goals as goal

pub returns-in-Some : goal.returns-in-Some
returns-in-Some g c =
    let check = g.C.Checker.meaning c.args.self.now.checker.now in
    let run = c.args.self.now.run.now in
    let vote = c.args.vote.now.vote in
    let own = part vote.replica (vote_spelling vote.replica vote.view vote.block) vote.seal in
    let found = rw (c.replica.ensures, c.statement.ensures, c.seal.ensures) at (sym c.in_part.ensures ∙ c.in-Some.is) in
    forged_first check run c.args.place.receiver c.args.place.entry 0 own (carried_parts c.args.vote.now.order) c.in-Some.forged found

pub returns-in-None : goal.returns-in-None
returns-in-None g c =
    let check = g.C.Checker.meaning c.args.self.now.checker.now in
    let run = c.args.self.now.run.now in
    let vote = c.args.vote.now.vote in
    let own = part vote.replica (vote_spelling vote.replica vote.view vote.block) vote.seal in
    let none = rw (c.replica.ensures, c.statement.ensures, c.seal.ensures) at (sym c.in_part.ensures ∙ c.in_default.is) in
    let carries = sym c.order.ensures ∙ c.in-None.is in
    sym (forged_others check run c.args.place.receiver c.args.place.entry 0 own (carried_parts c.args.vote.now.order) none
    ∙ rw carries (forged_none check run c.args.place.receiver c.args.place.entry 1))

pub returns-in-Some-order : goal.returns-in-Some-order
returns-in-Some-order g c =
    let check = g.C.Checker.meaning c.args.self.now.checker.now in
    let run = c.args.self.now.run.now in
    let vote = c.args.vote.now.vote in
    let own = part vote.replica (vote_spelling vote.replica vote.view vote.block) vote.seal in
    let none = rw (c.replica.ensures, c.statement.ensures, c.seal.ensures) at (sym c.in_part.ensures ∙ c.in_default.is) in
    let carries = sym c.order.ensures ∙ c.in-Some-order.is in
    c.in_order.ensures ∙ sym (forged_others check run c.args.place.receiver c.args.place.entry 0 own (carried_parts c.args.vote.now.order) none
    ∙ rw carries (forged_one check run c.args.place.receiver c.args.place.entry 1 (order_part c.in-Some-order.order)))
