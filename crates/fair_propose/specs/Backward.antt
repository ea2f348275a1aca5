-- A search from goals that follows edges backwards.
use Rattle.std.specs.Prelude.{◌≡◌, ℕ, List, Bool, true, false, slice_index_or}
use Rattle.majority_graph.specs.Graph.{Graph, HasEdge}
use Rattle.majority_graph.specs.Walks.{Walks}
use Rattle.walks.specs.declared.mark.Mark.{Mark}
use Rattle.walks.specs.declared.mark.Mark.TheVariants.{Unseen, Open}

-- a goal, by its number
abbrev pub IsGoal : List Bool → ℕ → Type 0
IsGoal goals v = slice_index_or goals v false ≡ true

-- a walk leads from u to a goal
abbrev pub LeadsToGoal : Graph → List Bool → ℕ → Type 0
LeadsToGoal g goals u = (v : ℕ) × IsGoal goals v × Walks (HasEdge g) u v

-- the initial mark of a vertex
abbrev pub begun : Bool → Mark
begun true = Open
begun false = Unseen
