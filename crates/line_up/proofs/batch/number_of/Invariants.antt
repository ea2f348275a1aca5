use Rattle.std.proofs.Common.{◌≡◌, ℕ, ◌<◌, get_or, false}
use Rattle.seq_base.specs.Tx.{tx_eq}
use Rattle.seq_base.specs.declared.tx.Tx.{Tx}
use Rattle.line_up.proofs.batch.number_of.Given as goal

abbrev pub invariant-loop-at : goal.invariant-loop-at
invariant-loop-at l = (k : ℕ) (d : Tx) → k < l.at → tx_eq (get_or l.vertices k d) l.tx ≡ false
