use Rattle.std.proofs.Common.{◌≡◌}
use Rattle.rand_chacha.specs.ChaCha.{of_seed}
use Rattle.plan_maker.specs.Order.{exchanged}
use Rattle.plan_maker.proofs.order.exchange.Given as goal

abbrev pub invariant-loop-place : goal.invariant-loop-place
invariant-loop-place l = record {
  so_far : l.txs ≡ exchanged l.fn.seed l.place l.initial.txs;
  words : l.words ≡ record (of_seed l.fn.seed) { word_pos = l.place };
}
