use Rattle.std.proofs.Common.{sym, ◌∙◌}
use Rattle.node_core.proofs.Acceptance.{order_accepted}
use Rattle.node_core.proofs.node.Node.judge_owned_order.Goals as goal

pub returns-in-Done : goal.returns-in-Done
returns-in-Done g c =
    let fresh = rw (← c.self.view_is) at c.requires in
    rw (← c.self.view_is)
    (order_accepted (g.S.Sealer.gives c.self.inside.sealer) _ c.args.from _ c.args.order.now c.in_ok-sealed.ensures.value
    (sym c.in_ok-reason.ensures ∙ c.in-Done.is) fresh)
