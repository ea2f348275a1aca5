use Rattle.std.proofs.Common.{◌≡◌, false, take}
use Rattle.std.specs.List.{list_any}
use Rattle.seq_base.specs.Lists.{holds}
use Rattle.chain_state.proofs.late.LateLists.lists_any.Given as goal

abbrev pub invariant-loop-tx : goal.invariant-loop-tx
invariant-loop-tx l = list_any (λ t. list_any (holds t) l.self) (take l.tx-index l.txs) ≡ false
