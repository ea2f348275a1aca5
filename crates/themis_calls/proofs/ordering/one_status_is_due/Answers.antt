use Rattle.themis_calls.proofs.Due.{one_due}
use Rattle.themis_calls.proofs.ordering.one_status_is_due.Goals as goal

pub returns : goal.returns
returns c = one_due
