use Rattle.std.proofs.Common.{ap}
use Rattle.mailbox.proofs.Posts.{reports, listens}
use Rattle.mailbox.proofs.mailbox.Mailbox.hear.Goals as goal

pub another-tale-requires-clause-rule : goal.another-tale-requires-clause-rule
another-tale-requires-clause-rule c = reports _ _ (ap (λ v. v.sends) c.sender.invariant.sends)

pub absorb-requires-clause-rule : goal.absorb-requires-clause-rule
absorb-requires-clause-rule c = listens _ _ _ _
