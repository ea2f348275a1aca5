use Rattle.std.proofs.Common.{refl}
use Rattle.audit_core.proofs.Rest.{short_parent}
use Rattle.audit_core.proofs.orders.is_drawn.Goals as goal

pub returns-in_default : goal.returns-in_default
returns-in_default c = rw (short_parent c.args.blocks.now.blocks c.args.statement.now c.in_default.ensures.short) refl
