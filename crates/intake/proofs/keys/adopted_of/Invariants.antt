use Rattle.std.proofs.Common.{◌≡◌, ◌+◌, max, fold, filter, take, nat_le}
use Rattle.intake.specs.Keys.{count_from}
use Rattle.intake.proofs.keys.adopted_of.Given as goal

abbrev pub invariant-loop-clock : goal.invariant-loop-clock
invariant-loop-clock l =
    l.adopted ≡ fold max 0 (filter (λ c. nat_le (l.f + 1) (count_from c l.clocks)) (take l.clock-index l.clocks))
