use Rattle.std.proofs.Common.{ap, Err, arith}
use Rattle.durable_node.specs.declared.kept.KeptFault.{KeptFault}
use Rattle.durable_node.proofs.Ends.{never_both}
use Rattle.durable_node.proofs.Lifetimes.{begun}
use Rattle.durable_node.proofs.kept.DurableNode.start.Goals as goal

pub returns-in-Ok-clause-lived : goal.returns-in-Ok-clause-lived
returns-in-Ok-clause-lived g c = λ events end prefix.
    begun _ _ _ _ _ _ _ _ _ _ _ _ _ (omega arith) c.in-Ok.ensures.opened c.in-Ok.ensures.durable_size _ events end prefix

pub returns-in-Ok-clause-good : goal.returns-in-Ok-clause-good
returns-in-Ok-clause-good g c = λ at bad. let o = c.in-Ok.ensures.opened in never_both _ _ o.events o.end at o.prefix bad

pub returns-in-Err-clause-bad : goal.returns-in-Err-clause-bad
returns-in-Err-clause-bad g c = λ at is. c.in-Err.ensures.bad at (ap (λ (f : KeptFault). Err f) is)
