use Rattle.durable_node.proofs.Lifetimes.{lived_on}
use Rattle.durable_node.proofs.kept.DurableNode.turn.Goals as goal

pub returns-in-Ok-clause-lived : goal.returns-in-Ok-clause-lived
returns-in-Ok-clause-lived g c = rw (← c.self.view_is) (λ opening header lifetime h.
    lived_on _ _ opening header _ _ _ _ _ _ _ _ _ _ lifetime _ _ c.if-self.false h c.in-Ok.ensures.ok c.in-Ok.ensures.can
    c.in-Ok.ensures.kept c.in-Ok.ensures.digest c.in-Ok.ensures.durable_size)
