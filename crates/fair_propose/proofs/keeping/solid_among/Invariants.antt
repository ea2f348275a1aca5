use Rattle.std.proofs.Common.{◌≡◌, map, take}
use Rattle.std.specs.Prelude.{nat_le}
use Rattle.seq_base.specs.Setting.{solid_of}
use Rattle.tx_class.specs.Tally.{count_in}
use Rattle.fair_propose.proofs.keeping.solid_among.Given as goal

abbrev pub invariant-loop-tx : goal.invariant-loop-tx
invariant-loop-tx l = l.solid.items ≡ map (λ t. nat_le (solid_of l.setting) (count_in l.classes t)) (take l.tx-index l.txs)
