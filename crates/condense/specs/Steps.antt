-- The steps of the pass.
use Rattle.std.specs.Prelude.{◌≡◌, ◌≢◌, ◌⊎◌, ℕ, ◌<◌, ◌+◌, List, length, Some, slice_index}
use Rattle.majority_graph.specs.Graph.{Graph, HasEdge}
use Rattle.condense.specs.declared.place.Place.{Place}
use Rattle.condense.specs.declared.place.Place.TheVariants.{Unseen, Open}
use Rattle.condense.specs.declared.step.Step.{Step}
use Rattle.condense.specs.declared.step.Step.TheVariants.{Enter, Follow, Join, Close}
use Rattle.condense.specs.Places.{place_at, level_of, IsSettled}

-- the edges into a vertex from vertices below `end` are settled at this level
abbrev pub SettledBelow : Graph → List Place → ℕ → ℕ → ℕ → Type 0
SettledBelow g places level at end = (u : ℕ) → u < end → HasEdge g u at → IsSettled level (place_at places u)

-- the edges into the open vertices of this level are settled up to where the search resumes
abbrev pub TopIsPassed : Graph → List Place → List ℕ → ℕ → Type 0
TopIsPassed g places resume top = (v : ℕ) → place_at places v ≡ Open top → SettledBelow g places top v (slice_index resume v)

-- there is an edge from u into the top group
abbrev pub LeadsToTop : Graph → List Place → ℕ → ℕ → Type 0
LeadsToTop g places depth u = (at : ℕ) × (top : ℕ) × (depth ≡ top + 1) × (level_of (place_at places at) ≡ Some top) × HasEdge g u at

-- the step is correct where the path has this many groups
abbrev pub IsStep : Graph → List Place → ℕ → Step → Type 0
IsStep g places depth (Enter v) = (v < length g.vertices) × (place_at places v ≡ Unseen) × ((depth ≡ 0) ⊎ LeadsToTop g places depth v)
IsStep g places depth (Follow v) = (top : ℕ) × (depth ≡ top + 1) × (v < length g.vertices) × (place_at places v ≡ Open top)
    × SettledBelow g places top v (length g.vertices)
IsStep g places depth (Join level) = (u : ℕ) × (level + 1 ≢ depth) × (level_of (place_at places u) ≡ Some level) × LeadsToTop g places depth u
IsStep g places depth Close = (top : ℕ) × (depth ≡ top + 1) × ((v : ℕ) → place_at places v ≢ Open top)
