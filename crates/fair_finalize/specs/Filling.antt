-- Lists to which transactions are appended one by one.
use Rattle.std.specs.Prelude.{ℕ, ◌++◌, List, [], ◌∷◌, slice_index_or, slice_set}
use Rattle.seq_base.specs.declared.tx.Tx.{Tx}

-- a transaction appended to the list with this number
abbrev pub with_one_more : List (List Tx) → ℕ → Tx → List (List Tx)
with_one_more lists number tx = slice_set lists number (slice_index_or lists number [] ++ tx ∷ [])
