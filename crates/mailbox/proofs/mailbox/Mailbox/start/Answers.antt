use Rattle.mailbox.proofs.Posts.{begins}
use Rattle.mailbox.proofs.mailbox.Mailbox.start.Goals as goal

pub with_rule-requires : goal.with_rule-requires
with_rule-requires c = begins
