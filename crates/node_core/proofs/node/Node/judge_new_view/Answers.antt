use Rattle.std.proofs.Common.{refl, sym}
use Rattle.node_core.proofs.Acceptance.{new_view_accepted}
use Rattle.node_core.proofs.node.Node.judge_new_view.Goals as goal

pub returns-in-Done-clause-judged : goal.returns-in-Done-clause-judged
returns-in-Done-clause-judged g c =
    let e = c.in-Done.ensures in
    rw (← c.self.view_is)
    (new_view_accepted (g.S.Sealer.gives c.self.inside.sealer) _ (g.C.Checker.meaning c.args.checker.now) c.args.from c.args.call
    (sym e.value) (record { view = e.view refl; earlier = e.earlier refl }))
