-- The effects of the steps.
use Rattle.std.specs.Prelude.{◌≡◌, ℕ, List, ◌<◌, ◌+◌, ◌^◌, length, slice_set}
use Rattle.condense.specs.declared.place.Place.{Place}
use Rattle.condense.specs.declared.place.Place.TheVariants.{Unseen, Open, Followed}
use Rattle.condense.specs.declared.step.Step.{Step}
use Rattle.condense.specs.declared.step.Step.TheVariants.{Enter, Follow, Join, Close}
use Rattle.condense.specs.declared.pass.Pass.{Pass}
use Rattle.condense.specs.Places.{place_at, joined, closed}

-- the step can be taken: its vertex exists, and the numbers fit their types
abbrev pub Fits : Pass → Step → Type 0
Fits pass (Enter v) = (v < length pass.places.items) × (pass.depth + 1 < 2 ^ 32)
Fits pass (Follow v) = (v < length pass.places.items) × (0 < pass.depth)
Fits pass (Join level) = level + 1 < 2 ^ 32
Fits pass Close = (0 < pass.depth) × (pass.count + 1 < 2 ^ 32)

-- an entered vertex was not seen, and a followed one is open at the top
abbrev pub Suits : List Place → ℕ → Step → Type 0
Suits places depth (Enter v) = place_at places v ≡ Unseen
Suits places depth (Follow v) = (top : ℕ) → depth ≡ top + 1 → place_at places v ≡ Open top
Suits places depth (Join level) = Unit {0}
Suits places depth Close = Unit {0}

-- the pass before the step and after it
abbrev pub Moves : Pass → Step → Pass → Type 0
Moves old (Enter v) new = (new.places.items ≡ slice_set old.places.items v (Open old.depth)) × (new.depth ≡ old.depth + 1) × (new.count ≡ old.count)
Moves old (Follow v) new = (top : ℕ) × (old.depth ≡ top + 1) × (new.places.items ≡ slice_set old.places.items v (Followed top))
    × (new.depth ≡ old.depth) × (new.count ≡ old.count)
Moves old (Join level) new = (length new.places.items ≡ length old.places.items)
    × ((v : ℕ) → place_at new.places.items v ≡ joined level (place_at old.places.items v)) × (new.depth ≡ level + 1) × (new.count ≡ old.count)
Moves old Close new = (length new.places.items ≡ length old.places.items)
    × ((v : ℕ) → place_at new.places.items v ≡ closed new.depth old.count (place_at old.places.items v)) × (old.depth ≡ new.depth + 1)
    × (new.count ≡ old.count + 1)
