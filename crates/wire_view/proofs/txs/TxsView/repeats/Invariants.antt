use Rattle.std.proofs.Common.{◌≡◌, ◌≤◌, length, drop, false}
use Rattle.wire_view.specs.Reading.{repeats}
use Rattle.wire_view.specs.Slots.{AreTaken}
use Rattle.wire_view.proofs.txs.TxsView.repeats.Given as goal

abbrev pub invariant-loop-k : goal.invariant-loop-k
invariant-loop-k l = (repeats (drop l.k l.self) ≡ false) × AreTaken l.taken (drop l.k l.self) × (l.k ≤ length l.self) × (length l.taken ≡ 1024)

abbrev pub decreases-loop-k : goal.decreases-loop-k
decreases-loop-k l = l.k
