use Rattle.durable_node.proofs.Lifetimes.{left, own}
use Rattle.durable_node.proofs.kept.DurableNode.crash.Goals as goal

pub returns-clause-own : goal.returns-clause-own
returns-clause-own g c = rw (← c.self.view_is) (λ fits gives opening header lifetime h.
    own fits gives opening header c.self.inside.closed c.self.inside.node.state _ _ _ lifetime h.0 c.stop.ensures.bytes)

pub returns-clause-left : goal.returns-clause-left
returns-clause-left g c = rw (← c.self.view_is) (λ fits gives opening header lifetime h.
    left fits gives opening header c.self.inside.closed c.self.inside.node.state _ _ _ lifetime h.0 c.stop.ensures.bytes)
