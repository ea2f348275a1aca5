use Rattle.mailbox.proofs.Empties.{gone}
use Rattle.mailbox.proofs.laws.what_was_heard_was_taken.Goals as goal

pub returns : goal.returns
returns c = gone
