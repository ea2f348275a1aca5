-- The weights of pairs of transactions over lists (Themis, CCS 2023, the majority graph). The number of lists that
-- hold a transaction is `listed`, in `seq_base`.
use Rattle.std.specs.Prelude.{ℕ, List, [], ◌∷◌, Bool, true, false, count_by, if◌then◌else◌}
use Rattle.seq_base.specs.declared.tx.Tx.{Tx}
use Rattle.seq_base.specs.Tx.{tx_eq}

-- Whether a list holds u before v, or holds u and not v: in a scan from the start, u is found, and no v before it.
abbrev pub ranks_above : Tx → Tx → List Tx → Bool
ranks_above u v [] = false
ranks_above u v (x ∷ xs) = if tx_eq x v then false else (if tx_eq x u then true else ranks_above u v xs)

-- the number of lists in which u ranks above v
abbrev pub weight : List (List Tx) → Tx → Tx → ℕ
weight lists u v = count_by (ranks_above u v) lists
