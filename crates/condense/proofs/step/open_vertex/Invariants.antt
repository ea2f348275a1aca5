use Rattle.std.proofs.Common.{◌≢◌, ℕ, ◌<◌, ◌≤◌, length, get_or}
use Rattle.condense.specs.declared.place.Place.TheVariants.{Open}
use Rattle.condense.specs.Places.{place_at}
use Rattle.condense.proofs.step.open_vertex.Given as goal

-- none of the entries from here on is open
abbrev pub invariant-loop-left : goal.invariant-loop-left
invariant-loop-left l = record {
  short : l.left ≤ length l.path;
  none : (k : ℕ) → l.left ≤ k → k < length l.path → place_at l.places (get_or l.path k 0) ≢ Open l.top;
}

abbrev pub decreases-loop-left : goal.decreases-loop-left
decreases-loop-left l = l.left
