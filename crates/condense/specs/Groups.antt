-- Vertices in numbered groups.
use Rattle.std.specs.Prelude.{◌≡◌, ℕ, List, length, slice_index, Bool, true}
use Rattle.majority_graph.specs.Graph.{Graph}
use Rattle.batch_laws.specs.Batches.{IsLine}
use Rattle.walks.specs.Reach.{reaches_in}

-- the number of each vertex's group, and the number of groups
pub record Groups : Type 0 where
  pub numbers : List ℕ
  pub count : ℕ

-- The groups are the strong components, numbered in a topological order. Two vertices have the same number exactly
-- where walks lead both ways. No edge leads to a smaller number. The numbers are those below the count.
pub record AreComponents (g : Graph) (groups : Groups) : Type 0 where
  pub each : length groups.numbers ≡ length g.vertices
  pub line : IsLine g (λ u. slice_index groups.numbers u) groups.count

-- two vertices are in the same group
abbrev pub AreInOneGroup : Groups → ℕ → ℕ → Type 0
AreInOneGroup groups u v = slice_index groups.numbers u ≡ slice_index groups.numbers v

-- each of the two reaches the other, by a table of what each vertex reaches
abbrev pub ReachEachOther : List (List Bool) → ℕ → ℕ → Type 0
ReachEachOther reach u v = (reaches_in reach u v ≡ true) × (reaches_in reach v u ≡ true)
