-- What arrives at a replica, and when.
use Rattle.std.specs.Prelude.{ℕ, ◌%◌, ◌==◌, List, [], ◌∷◌, ◌++◌, nat_le, max, map, filter, length, take, drop, if◌then◌else◌}
use Rattle.std.specs.List.{flat_map, fold, prefix_len, range_with_len}
use Rattle.seq_base.specs.declared.tx.Tx.{Tx}
use Rattle.plan_text.specs.declared.plan.Client.{Client}
use Rattle.plan_text.specs.declared.plan.Arrival.{Arrival}
use Rattle.plan_text.specs.declared.plan.Plan.{Plan}
use Rattle.replica_seat.specs.declared.arrivals.TimedTx.{TimedTx}

-- transactions that arrive once this many envelopes are delivered
abbrev pub at_turn : ℕ → List Tx → List TimedTx
at_turn turn txs = map (λ t. record { turn = turn; tx = t }) txs

-- a number modulo a count of places
abbrev pub place_among : ℕ → ℕ → ℕ
place_among r count = if count == 0 then 0 else r % count

-- the items from a place to the end, then those before the place
abbrev pub around : {X : Type 0} → ℕ → List X → List X
around first xs = drop (place_among first (length xs)) xs ++ take (place_among first (length xs)) xs

-- In round r, each client with at least r transactions gives the one with number r.
abbrev pub round_of : List Client → ℕ → List Tx
round_of clients r = map (λ c. record { client = c.id; number = r; payload = 0 }) (filter (λ c. nat_le r c.count) clients)

-- the maximum number of transactions of a client
abbrev pub rounds_of : List Client → ℕ
rounds_of clients = fold (λ most c. max c.count most) 0 clients

-- The transactions of clients as a replica receives them: in rounds, where the round of each replica starts with
-- another client.
unfoldable pub clients_for : List Client → ℕ → List Tx
clients_for clients replica = flat_map (round_of (around replica clients)) (range_with_len 1 (rounds_of clients))

-- an arrival is inserted after all that come no later
abbrev pub put_by_turn : List Arrival → Arrival → List Arrival
put_by_turn [] a = a ∷ []
put_by_turn (b ∷ bs) a = if nat_le b.turn a.turn then b ∷ put_by_turn bs a else a ∷ b ∷ bs

-- the arrivals in ascending order of turns; those of the same turn keep their order
abbrev pub by_turn : List Arrival → List Arrival
by_turn arrivals = fold put_by_turn [] arrivals

-- the arrivals at a replica, in ascending order of turns
abbrev pub arrivals_at : List Arrival → ℕ → List Arrival
arrivals_at arrivals replica = by_turn (filter (λ a. a.replica == replica) arrivals)

-- the transactions of arrivals, each with its turn
abbrev pub timed : List Arrival → List TimedTx
timed arrivals = flat_map (λ a. at_turn a.turn a.txs) arrivals

-- those of a replica
unfoldable pub arrivals_for : List Arrival → ℕ → List TimedTx
arrivals_for arrivals replica = timed (arrivals_at arrivals replica)

-- a replica's arrival list: at turn 0 the transactions of clients, then its own arrivals
abbrev pub timed_for : Plan → ℕ → List TimedTx
timed_for plan replica = at_turn 0 (clients_for plan.clients replica) ++ arrivals_for plan.arrivals replica

-- without their turns
abbrev pub txs_of : List TimedTx → List Tx
txs_of list = map (λ t. t.tx) list

-- the whole arrival list of a replica, and how much of it was given
pub record Fed : Type 0 where
  pub txs : List Tx
  pub left : List TimedTx

-- what arrives at a replica, before anything was given
unfoldable pub feed_of : Plan → ℕ → Fed
feed_of plan replica = record { txs = txs_of (timed_for plan replica); left = timed_for plan replica }

-- the arrivals alone
abbrev pub feed_without_clients : List Arrival → ℕ → Fed
feed_without_clients arrivals replica = record { txs = txs_of (arrivals_for arrivals replica); left = arrivals_for arrivals replica }

-- how many of those that were not given yet have arrived by a count of turns
abbrev pub count_by_now : ℕ → List TimedTx → ℕ
count_by_now turns left = prefix_len (λ t. nat_le t.turn turns) left

-- what has arrived by a count of turns and was not given yet
abbrev pub arrived : ℕ → Fed → List Tx
arrived turns feed = txs_of (take (count_by_now turns feed.left) feed.left)

-- the feed after that is given
abbrev pub after_giving : ℕ → Fed → Fed
after_giving turns feed = record { txs = feed.txs; left = drop (count_by_now turns feed.left) feed.left }
