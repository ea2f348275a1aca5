use Rattle.std.proofs.Common.{◌≡◌, ◌≤◌, length}
use Rattle.plan_text.specs.OrderReading.{txs_in, txs_after, words_in, words_after}
use Rattle.plan_text.proofs.order.order_txs.Given as goal

abbrev pub invariant-loop-following : goal.invariant-loop-following
invariant-loop-following l = record {
  so_far : txs_in (words_in l.line) ≡ txs_after l.txs.items (words_after l.following);
  short : length l.txs.items ≤ 128;
}

abbrev pub decreases-loop-following : goal.decreases-loop-following
decreases-loop-following l = length (words_after l.following)
