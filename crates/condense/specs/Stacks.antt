-- The vertices of the path, in the order in which they were entered.
use Rattle.std.specs.Prelude.{◌≡◌, ℕ, ◌<◌, ◌≤◌, List, length, Some, slice_index}
use Rattle.condense.specs.declared.place.Place.{Place}
use Rattle.condense.specs.Places.{place_at, level_of}

-- the entry of this position is at this level of the path
abbrev pub EntryAt : List Place → List ℕ → ℕ → ℕ → Type 0
EntryAt places path k level = level_of (place_at places (slice_index path k)) ≡ Some level

-- The entries are the vertices of the path, each once. Their levels are below the depth, and never decrease.
pub record IsStack (places : List Place) (depth : ℕ) (path : List ℕ) : Type 0 where
  pub each : (k : ℕ) → k < length path → (level : ℕ) × (level < depth) × EntryAt places path k level
  pub all : (v level : ℕ) → level_of (place_at places v) ≡ Some level → (k : ℕ) × (k < length path) × (slice_index path k ≡ v)
  pub rises : (j k a b : ℕ) → j ≤ k → k < length path → EntryAt places path j a → EntryAt places path k b → a ≤ b
  pub once : (j k : ℕ) → j < length path → k < length path → slice_index path j ≡ slice_index path k → j ≡ k
