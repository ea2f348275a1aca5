-- What the replicas receive in addition to the clients' transactions.
use Rattle.std.specs.Prelude.{ℕ, ◌+◌, ◌-◌, ◌<◌, ◌≤◌, ◌==◌, ◌||◌, Bool, List, [], ◌∷◌, ◌++◌, Result, Ok, Err, length, codes, map, nat_lt, sum_by, if◌then◌else◌}
use Rattle.std.specs.List.{flat_map, list_any, range_with_len}
use Rattle.toml.specs.Data.{Data}
use Rattle.seq_base.specs.declared.tx.Tx.{Tx}
use Rattle.std.specs.declared.cmp.Ordering.{Ordering}
use Rattle.std.specs.Ordering.{nat_cmp, ordering_then}
use Rattle.std.specs.BTreeSet.{BTreeSet, contains}
use Rattle.seq_base.specs.Lists.{holds}
use Rattle.seq_base.specs.Tx.{tx_cmp}
use Rattle.seq_base.specs.Setting.{Parameters}
use Rattle.plan_text.specs.declared.fault.FaultKind.{FaultKind}
use Rattle.plan_text.specs.declared.fault.FaultKind.TheVariants.{Double}
use Rattle.plan_text.specs.declared.plan.Arrival.{Arrival}
use Rattle.plan_text.specs.declared.plan.Client.{Client}
use Rattle.plan_text.specs.Reads.{Read, then_read, read_each}
use Rattle.plan_text.specs.Values.{array_in, tx_in}
use Rattle.plan_text.specs.Marks.{Marks}
use Rattle.plan_text.specs.Fields.{Section, at_key, at_key_or, key_in, known, named, number_at, place, section_at}
use Rattle.plan_text.specs.Clients.{is_client}

-- what a replica receives by some arrivals
abbrev pub received : ℕ → List Arrival → List Tx
received replica arrivals = flat_map (λ arrival. if arrival.replica == replica then arrival.txs else []) arrivals

-- pairs of a replica and a transaction that it received, arrival by arrival
abbrev pub receipts_of : ℕ → List Tx → List (ℕ × Tx)
receipts_of replica txs = map (λ tx. (replica, tx)) txs

abbrev pub receipts : List Arrival → List (ℕ × Tx)
receipts arrivals = flat_map (λ arrival. receipts_of arrival.replica arrival.txs) arrivals

-- by the replica, then the transaction
abbrev pub receipt_cmp : ℕ × Tx → ℕ × Tx → Ordering
receipt_cmp x y = ordering_then (nat_cmp x.0 y.0) (tx_cmp x.1 y.1)

abbrev pub receipt : ℕ × Tx → ℕ × Tx
receipt x = x

-- the set holds what the replicas received by some arrivals
abbrev pub HasReceived : BTreeSet (ℕ × Tx) → List Arrival → Type 0
HasReceived set arrivals = Marks receipt_cmp receipt set (receipts arrivals)

-- the same, followed by what one of them receives after those
abbrev pub HasReceivedMore : BTreeSet (ℕ × Tx) → List Arrival → ℕ → List Tx → Type 0
HasReceivedMore set arrivals replica txs = Marks receipt_cmp receipt set (receipts arrivals ++ receipts_of replica txs)

-- a transaction that the replica has not received yet, and which is no client's
abbrev pub fresh_or_double : List Client → List Tx → Tx → Result Tx FaultKind
fresh_or_double clients had tx = if is_client clients tx.client || holds tx had then Err Double else Ok tx

abbrev pub fresh_tx : List Client → List Tx → Result Tx FaultKind → Result Tx FaultKind
fresh_tx clients had (Ok tx) = fresh_or_double clients had tx
fresh_tx clients had (Err kind) = Err kind

-- the same, where a set has the receipts
abbrev pub fresh_or_met : List Client → BTreeSet (ℕ × Tx) → ℕ → Result Tx FaultKind → Result Tx FaultKind
fresh_or_met clients set replica (Ok tx) = if is_client clients tx.client || contains receipt_cmp set (replica, tx) then Err Double else Ok tx
fresh_or_met clients set replica (Err kind) = Err kind

-- the next transaction after those before it in one arrival, of a replica that received others by earlier arrivals
abbrev pub tx_after : List Client → List Tx → Section → List Tx → Data → Read Tx
tx_after clients had t before d = named (place (key_in t (codes "txs")) (length before)) (fresh_tx clients (had ++ before) (tx_in d))

-- what one of n replicas receives after a given number of delivered envelopes
abbrev pub IsArrival : ℕ → Arrival → Type 0
IsArrival n arrival = (arrival.replica < n) × (arrival.turn ≤ 200000)

unfoldable pub arrival_in : ℕ → List Client → List Arrival → Data → Read Arrival
arrival_in n clients before d =
    then_read (section_at (codes "arrival") (length before) d) (λ t.
    then_read (known (codes "replica" ∷ codes "turn" ∷ codes "txs" ∷ []) t) (λ _.
    then_read (number_at 0 (n - 1) (codes "replica") t) (λ replica.
    then_read (number_at 0 200000 (codes "turn") t) (λ turn.
    then_read (at_key array_in (codes "txs") t) (λ values.
    then_read (read_each (tx_after clients (received replica before) t) [] values) (λ txs.
    Ok (record { replica = replica; turn = turn; txs = txs })))))))

unfoldable pub arrivals_at : Parameters → List Client → Section → Read (List Arrival)
arrivals_at setting clients s = then_read (at_key_or [] array_in (codes "arrival") s) (λ values. read_each (arrival_in setting.n clients) [] values)

-- a replica receives all transactions of the clients, and those of its arrivals
abbrev pub total_received : List Client → List Arrival → ℕ → ℕ
total_received clients arrivals replica = sum_by (λ client. client.count) clients + length (received replica arrivals)

-- some replica receives more than a log holds
abbrev pub overflows : Parameters → List Client → List Arrival → Bool
overflows setting clients arrivals = list_any (λ replica. nat_lt 65536 (total_received clients arrivals replica)) (range_with_len 0 setting.n)
