use Rattle.std.proofs.Common.{◌≡◌, length, take}
use Rattle.lm_ots.specs.Ots.{parts_of, middle_part}
use Rattle.lm_ots.proofs.key.middles.Given as goal

-- the middles of the chains so far are written
abbrev pub invariant-loop-index : goal.invariant-loop-index
invariant-loop-index l = (length l.middles ≡ 67) × (take l.index l.middles ≡ parts_of l.index (middle_part l.id l.leaf l.seed))
