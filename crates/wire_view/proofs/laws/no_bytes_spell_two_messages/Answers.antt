use Rattle.wire_view.proofs.Whole.{one_message}
use Rattle.wire_view.proofs.laws.no_bytes_spell_two_messages.Goals as goal

pub returns : goal.returns
returns c = one_message
