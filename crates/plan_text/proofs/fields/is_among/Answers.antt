use Rattle.std.proofs.Common.{sym}
use Rattle.plan_text.proofs.Documents.{is_named-at}
use Rattle.plan_text.proofs.fields.is_among.Goals as goal

pub returns-then-eq : goal.returns-then-eq
returns-then-eq c = sym (is_named-at c.args.names.now c.args.key.now c.loop-name.name-index _ c.loop-name-test.true (sym c.if-eq.ensures))
