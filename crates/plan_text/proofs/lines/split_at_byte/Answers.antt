use Rattle.std.proofs.Common.{◌+◌, rules}
use Rattle.plan_text.proofs.Cuts.{parts_none, parts_some, back_is}
use Rattle.plan_text.proofs.lines.split_at_byte.Goals as goal

pub returns-in-None-clause-none : goal.returns-in-None-clause-none
returns-in-None-clause-none c = parts_none c.args.byte c.args.text.now (search rules)

pub returns-in-Some-clause-some : goal.returns-in-Some-clause-some
returns-in-Some-clause-some c = rw (back_is (c.in-Some.at + 1) c.args.text.now) (parts_some c.args.byte c.args.text.now c.in-Some.at (search rules))
