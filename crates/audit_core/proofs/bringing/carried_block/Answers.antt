use Rattle.std.proofs.Common.{sym, ◌∙◌}
use Rattle.audit_core.proofs.StepAnswers.{block_invalid, block_clashes, block_carried, block_taken}
use Rattle.audit_core.proofs.bringing.carried_block.Goals as goal

pub returns-then-not-branch-clause-carried : goal.returns-then-not-branch-clause-carried
returns-then-not-branch-clause-carried g c =
    block_invalid (g.C.Checker.meaning c.args.checker.now) c.args.blocks.now c.args.view.now c.args.is_proposed
    (sym c.in_ok-may_take_block.ensures ∙ c.if-not-branch.true)

pub returns-then-clashes-clause-carried : goal.returns-then-clashes-clause-carried
returns-then-clashes-clause-carried g c =
    block_clashes (g.C.Checker.meaning c.args.checker.now) c.args.blocks.now c.args.view.now c.args.is_proposed c.in_ok-block.block
    c.name_of-digest.result c.store.result.now c.in_ok-block.ensures.value
    c.name_of-digest.ensures c.store.ensures (sym c.if-clashes.ensures)

pub returns-clause-carried : goal.returns-clause-carried
returns-clause-carried g c =
    block_carried (g.C.Checker.meaning c.args.checker.now) c.args.blocks.now c.args.view.now c.args.is_proposed c.in_ok-block.block
    c.name_of-digest.result c.store.result.now c.in_ok-block.ensures.value
    c.name_of-digest.ensures c.store.ensures (sym c.in_ok-may_take_block.ensures ∙ c.if-not-branch.false) (sym c.if-clashes.ensures)

pub returns-clause-taken : goal.returns-clause-taken
returns-clause-taken g c =
    block_taken (g.C.Checker.meaning c.args.checker.now) c.args.blocks.now c.args.view.now c.in_ok-block.block c.name_of-digest.result
    c.store.result.now c.in_ok-block.ensures.value
    c.name_of-digest.ensures c.store.ensures (sym c.in_ok-may_take_block.ensures ∙ c.if-not-branch.false)
    (sym c.if-clashes.ensures) c.in_ok-block.ensures.within
