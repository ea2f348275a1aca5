use Rattle.audit_core.proofs.StepAnswers.{valid_lists}
use Rattle.audit_core.proofs.valid.may_take_block.Goals as goal

pub returns : goal.returns
returns g c =
    valid_lists (g.C.Checker.meaning c.args.checker.now) c.args.blocks.now c.args.block.now c.args.view.now c.as_slice.result.now
    c.orders_fit.result c.requires c.as_slice.ensures c.if-not-is_shaped.ensures c.orders_fit.ensures
