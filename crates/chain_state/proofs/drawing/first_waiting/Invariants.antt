use Rattle.std.proofs.Common.{◌≡◌, ◌≤◌, length, take}
use Rattle.std.specs.Prelude.{filter}
use Rattle.chain_state.specs.Standings.{is_waiting}
use Rattle.chain_state.proofs.drawing.first_waiting.Given as goal

abbrev pub invariant-loop-tx : goal.invariant-loop-tx
invariant-loop-tx l = record { drawn : l.txs.items ≡ filter (is_waiting l.chain) (take l.tx-index l.prefix); few : length l.txs.items ≤ 256 }
