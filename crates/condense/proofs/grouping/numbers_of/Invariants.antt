use Rattle.std.proofs.Common.{◌≡◌, map, take}
use Rattle.condense.specs.Places.{number_of}
use Rattle.condense.proofs.grouping.numbers_of.Given as goal

abbrev pub invariant-loop-place : goal.invariant-loop-place
invariant-loop-place l = l.numbers.items ≡ map number_of (take l.place-index l.places)
