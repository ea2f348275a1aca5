use Rattle.std.proofs.Common.{◌≢◌, ℕ, ◌<◌}
use Rattle.condense.specs.declared.place.Place.TheVariants.{Unseen}
use Rattle.condense.specs.Places.{place_at}
use Rattle.condense.proofs.step.first_unseen.Given as goal

abbrev pub invariant-loop-at : goal.invariant-loop-at
invariant-loop-at l = (v : ℕ) → v < l.at → place_at l.places v ≢ Unseen
