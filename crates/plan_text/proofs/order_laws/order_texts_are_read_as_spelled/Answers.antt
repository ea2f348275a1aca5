use Rattle.plan_text.proofs.Spelled.{spelled_is_read, read_is_spelled}
use Rattle.plan_text.proofs.order_laws.order_texts_are_read_as_spelled.Goals as goal

pub returns : goal.returns
returns c = record { spelled = spelled_is_read; read = read_is_spelled }
