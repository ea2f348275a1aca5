-- What a loop keeps of the items so far.
use Rattle.std.specs.Prelude.{◌≡◌, ℕ, List, Bool, true, nat_lt, nat_le}
use Rattle.std.specs.List.{list_all, list_any}
use Rattle.seq_base.specs.declared.tx.Tx.{Tx}
use Rattle.seq_base.specs.Lists.{holds}
use Rattle.seq_base.specs.Tx.{tx_eq}

-- If all have to be distinct, the keys of a set are the transactions so far.
abbrev pub Knows : Bool → List Tx → List Tx → Type 0
Knows distinct before keys = distinct ≡ true → (t : Tx) → list_any (tx_eq t) keys ≡ holds t before

-- A number is above all so far if it is at least this one.
abbrev pub IsAboveAll : ℕ → List ℕ → Type 0
IsAboveAll least before = (r : ℕ) → list_all (λ m. nat_lt m r) before ≡ nat_le least r
