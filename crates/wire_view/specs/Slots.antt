-- Each transaction has a slot. Transactions in different slots are different.
use Rattle.std.specs.Prelude.{◌≡◌, ℕ, ◌+◌, ◌*◌, ◌%◌, Bool, true, false, List, slice_index_or}
use Rattle.std.specs.List.{AllByRecursion}
use Rattle.seq_base.specs.declared.tx.Tx.{Tx}

abbrev pub slot_of : Tx → ℕ
slot_of t = (t.number + 37 * t.client) % 1024

-- the slot of each of the transactions is taken
abbrev pub AreTaken : List Bool → List Tx → Type 0
AreTaken taken txs = AllByRecursion (λ t. slice_index_or taken (slot_of t) false ≡ true) txs
