use Rattle.mailbox.proofs.Empties.{all_gone}
use Rattle.mailbox.proofs.laws.an_empty_mailbox_keeps_nothing_back.Goals as goal

pub returns : goal.returns
returns c = all_gone
