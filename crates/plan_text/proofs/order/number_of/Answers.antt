use Rattle.std.proofs.Common.{sym, arith}
use Rattle.plan_text.proofs.Words.{number_of_text-some, number_of_text-none}
use Rattle.plan_text.proofs.order.number_of.Goals as goal

pub returns-in-None : goal.returns-in-None
returns-in-None c = sym (number_of_text-none c.args.text.now c.in-None.ensures.none)

pub returns-in-Some : goal.returns-in-Some
returns-in-Some c = sym (number_of_text-some c.args.text.now c.in-Some.number (omega arith) c.in-Some.ensures.some)
