use Rattle.mailbox.proofs.Empties.{not_gone, one_letter}
use Rattle.mailbox.proofs.laws.a_mailbox_with_a_message_is_not_empty.Goals as goal

pub returns : goal.returns
returns c = record {
  left = not_gone;
  message = one_letter;
}
