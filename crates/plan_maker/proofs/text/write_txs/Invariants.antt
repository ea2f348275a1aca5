use Rattle.std.proofs.Common.{◌≡◌, ◌++◌, string_bytes, take, codes}
use Rattle.std.specs.List.{flat_map}
use Rattle.plan_maker.specs.Text.{quoted}
use Rattle.plan_maker.proofs.text.write_txs.Given as goal

abbrev pub invariant-loop-tx : goal.invariant-loop-tx
invariant-loop-tx l = string_bytes l.text ≡ string_bytes l.initial.text ++ flat_map (λ u. codes ", " ++ quoted u) (take l.tx-index l.following)
