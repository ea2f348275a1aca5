use Rattle.std.proofs.Common.{sym, ◌∙◌}
use Rattle.node_core.proofs.Acceptance.{can_be_stored, propose_accepted}
use Rattle.node_core.proofs.node.Node.judge_proposed_block.Goals as goal

pub returns-in-Done : goal.returns-in-Done
returns-in-Done g c =
    let block = c.in_ok-block.ensures in
    let reason = c.in_ok-reason.ensures in
    let view = rw (← c.self.view_is) at c.requires.view in
    let parent = rw (← c.self.view_is) at c.requires.parent in
    let storable = can_be_stored c.self.inside.state _ c.args.view.now _ block.value view c.requires.earlier parent block.within
    c.name_of-digest.ensures (reason.alone c.in-Done.is) in
    rw (← c.self.view_is)
    (propose_accepted (g.S.Sealer.gives c.self.inside.sealer) _ (g.C.Checker.meaning c.args.checker.now) _ c.args.view.now _ block.value
    (sym reason.value ∙ c.in-Done.is) storable (reason.later c.in-Done.is))
