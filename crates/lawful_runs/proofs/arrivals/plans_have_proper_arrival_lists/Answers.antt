use Rattle.replica_seat.proofs.ArrivalLists.{is_arrival_list}
use Rattle.lawful_runs.proofs.arrivals.plans_have_proper_arrival_lists.Goals as goal

pub returns : goal.returns
returns c = λ bytes plan r read rules below. is_arrival_list plan rules (c.plans_keep_transactions_apart.ensures bytes plan read) r below
