-- How many times a transaction occurs in a list.
use Rattle.std.specs.Prelude.{ℕ, List, count_by}
use Rattle.seq_base.specs.declared.tx.Tx.{Tx}
use Rattle.seq_base.specs.Tx.{tx_eq}

abbrev pub times : Tx → List Tx → ℕ
times t list = count_by (λ x. tx_eq x t) list
