use Rattle.std.proofs.Common.{ap, ◌∙◌}
use Rattle.mailbox.proofs.Posts.{notes, reports_news, compares}
use Rattle.mailbox.proofs.mailbox.Mailbox.all_taken.Goals as goal

pub another-note-requires-clause-rule : goal.another-note-requires-clause-rule
another-note-requires-clause-rule g c = notes _ _

pub absorb-requires-clause-rule : goal.absorb-requires-clause-rule
absorb-requires-clause-rule g c = reports_news _ _ _ _ (ap (λ v. v.takes) c.sender.invariant.sends)

pub len_as-requires-clause-rule : goal.len_as-requires-clause-rule
len_as-requires-clause-rule g c = compares _ _ (ap (λ v. v.sends) c.absorb.ensures.rule ∙ ap (λ v. v.sends) c.sender.invariant.sends)
