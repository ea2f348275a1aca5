use Rattle.std.proofs.Common.{◌≡◌, ◌≤◌, length}
use Rattle.intake.proofs.chain.keep_unproposed.Given as goal

abbrev pub invariant-loop-at : goal.invariant-loop-at
invariant-loop-at g l = (l.kept ≤ l.at) × (length l.txs.items ≡ length l.initial.txs.items)
