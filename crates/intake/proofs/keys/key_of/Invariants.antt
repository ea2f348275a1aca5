use Rattle.std.proofs.Common.{◌≡◌, min, fold, filter, take}
use Rattle.intake.specs.Keys.{unknown, reaches}
use Rattle.intake.proofs.keys.key_of.Given as goal

abbrev pub invariant-loop-stamp : goal.invariant-loop-stamp
invariant-loop-stamp l = l.key ≡ fold min unknown (filter (reaches l.k l.stamps) (take l.stamp-index l.stamps))
