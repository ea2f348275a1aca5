use Rattle.std.proofs.Common.{◌≡◌, ◌≤◌, length, take}
use Rattle.std.specs.Prelude.{filter, not}
use Rattle.chain_state.specs.Standings.{is_used}
use Rattle.chain_state.proofs.drawing.first_unused.Given as goal

abbrev pub invariant-loop-tx : goal.invariant-loop-tx
invariant-loop-tx l = record { drawn : l.txs.items ≡ filter (λ t. not (is_used l.chain t)) (take l.tx-index l.prefix); few : length l.txs.items ≤ 128 }
