-- What is submitted to the logs of a run.
use Rattle.std.specs.Prelude.{ℕ, List, ◌∷◌, map}
use Rattle.seq_base.specs.declared.tx.Tx.{Tx}
use Rattle.client_logs.specs.Clients.{numbered}
use Rattle.plan_text.specs.declared.plan.Client.{Client}
use Rattle.plan_text.specs.declared.plan.Plan.{Plan}
use Rattle.replica_seat.specs.Feed.{arrivals_for, txs_of}

-- what a client submits to each log
abbrev pub client_list : Client → List Tx
client_list c = numbered c.id c.count

-- all that is submitted to a replica's log: its arrivals in ascending order of turns, and each client's list
abbrev pub submitted_to : Plan → ℕ → List (List Tx)
submitted_to plan replica = txs_of (arrivals_for plan.arrivals replica) ∷ map client_list plan.clients
