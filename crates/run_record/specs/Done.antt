-- The due transactions of a run, and whether a replica has finalised all of them.
use Rattle.std.specs.Prelude.{ℕ, List, [], ◌∷◌, Bool, Option, Some, None, map}
use Rattle.std.specs.List.{filter, list_all, list_any}
use Rattle.seq_base.specs.declared.tx.Tx.{Tx}
use Rattle.seq_base.specs.Lists.{holds}
use Rattle.run_record.specs.Honest.{is_honest, honest_items}

-- the transactions of a list that are in each of the others
abbrev pub in_each : List Tx → List (List Tx) → List Tx
in_each list others = filter (λ tx. list_all (holds tx) others) list

-- the transactions of the first list, if there is one, that are in each of the others
abbrev pub in_all : List (List Tx) → List Tx
in_all [] = []
in_all (list ∷ others) = in_each list others

-- The due transactions of a run with n replicas: those in the arrival list of every honest replica, in the order of the
-- list of the honest replica with the least number.
abbrev pub due_of : ℕ → List ℕ → List (List Tx) → List Tx
due_of n faulty arrivals = in_all (map (λ item. item.1) (honest_items (is_honest n faulty) 0 arrivals))

-- the transactions that are in the earlier lists, if there are any, and in one more list
abbrev pub narrowed : Option (List Tx) → List Tx → List Tx
narrowed None list = list
narrowed (Some earlier) list = filter (λ tx. holds tx list) earlier

-- the transactions that are in the earlier lists, if there are any, and in each of the others
abbrev pub narrowed_by_all : Option (List Tx) → List (List Tx) → List Tx
narrowed_by_all None lists = in_all lists
narrowed_by_all (Some earlier) lists = in_each earlier lists

-- whether one of the batches has a transaction
abbrev pub is_finalised : List (List Tx) → Tx → Bool
is_finalised batches tx = list_any (holds tx) batches

-- whether the batches have each of these transactions
abbrev pub hold_all : List (List Tx) → List Tx → Bool
hold_all batches due = list_all (is_finalised batches) due
