use Rattle.std.proofs.Common.{◌≡◌, take}
use Rattle.std.specs.Prelude.{filter, nat_le}
use Rattle.seq_base.specs.Setting.{threshold_of}
use Rattle.tx_class.specs.Tally.{count_in}
use Rattle.fair_propose.proofs.keeping.candidates.Given as goal

abbrev pub invariant-loop-tx : goal.invariant-loop-tx
invariant-loop-tx l = l.candidates.items ≡ filter (λ t. nat_le (threshold_of l.setting) (count_in l.classes t)) (take l.tx-index l.listed)
