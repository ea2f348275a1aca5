-- A session ends at its marker. Its cut is what counts of it, and what does not count is carried over to the next one.
use Rattle.std.specs.Prelude.{ℕ, List, [], ◌∷◌, not, filter, if◌then◌else◌}
use Rattle.seq_base.specs.declared.tx.Tx.{Tx}
use Rattle.seq_base.specs.Lists.{holds}
use Rattle.run_record.specs.Done.{is_finalised}

-- The reserved transaction that ends the session with this number. No client may submit for client 0.
abbrev pub marker : ℕ → Tx
marker session = record { client = 0; number = session; payload = 0 }

-- the batches up to and including the first one that holds m, or all of them if none does
abbrev pub cut_at : Tx → List (List Tx) → List (List Tx)
cut_at m [] = []
cut_at m (batch ∷ later) = batch ∷ (if holds m batch then [] else cut_at m later)

-- what arrived and is in none of the batches, in the order of arrival
abbrev pub carried_over : List (List Tx) → List Tx → List Tx
carried_over batches arrived = filter (λ t. not (is_finalised batches t)) arrived
