use Rattle.mailbox.proofs.Posts.{sends}
use Rattle.mailbox.proofs.mailbox.push.Goals as goal

pub push_as-requires-clause-rule : goal.push_as-requires-clause-rule
push_as-requires-clause-rule g c = λ n. sends n _ _ _ c.requires.sends.0 c.requires.sends.1 c.requires.room
