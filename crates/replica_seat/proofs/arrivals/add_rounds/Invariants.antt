use Rattle.std.proofs.Common.{◌≡◌, ◌++◌}
use Rattle.std.specs.List.{flat_map, range_with_len}
use Rattle.replica_seat.specs.Feed.{at_turn, round_of}
use Rattle.replica_seat.proofs.arrivals.add_rounds.Given as goal

abbrev pub invariant-loop-round : goal.invariant-loop-round
invariant-loop-round l = l.list.items ≡ l.initial.list.items ++ at_turn 0 (flat_map (round_of (l.from ++ l.before)) (range_with_len 1 l.round))
