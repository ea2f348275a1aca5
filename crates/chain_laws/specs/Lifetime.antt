-- The lifetime of a proposal: one block proposes it, and later blocks may give its missing edges.
use Rattle.std.specs.Prelude.{ℕ, ◌≡◌, List, ◌∷◌, Some, true, map, take, slice_get}
use Rattle.seq_base.specs.declared.tx.Tx.{Tx}
use Rattle.seq_base.specs.Setting.{Parameters}
use Rattle.majority_graph.specs.declared.edge.Edge.TheVariants.{Missing}
use Rattle.majority_graph.specs.Graph.{Graph, IsComplete}
use Rattle.fair_laws.specs.Kept.{AreKept}
use Rattle.majority_graph.specs.Later.{first_edge, HasFirstEdges}
use Rattle.chain_laws.specs.Drawn.{Placed, fresh_lists, late_lists}

-- the lists that bear on its pairs: the fresh lists of its own block, then the late lists of each later one
abbrev pub lists_of_lifetime : Placed → List Placed → List (List (List Tx))
lists_of_lifetime first later = fresh_lists first ∷ map late_lists later

-- As long as the blocks before a later block give the pair of a and b no edge, a is waiting there.
abbrev pub WaitsWhileMissing : Parameters → Placed → List Placed → Tx → Tx → Type 0
WaitsWhileMissing s first later a b = (k : ℕ) (block : Placed) → slice_get later k ≡ Some block
    → first_edge s (lists_of_lifetime first (take k later)) a b ≡ Missing → block.waiting a ≡ true

-- All that the first block keeps, each pair with the edge of the first of the blocks that gives one, and no pair
-- missing.
pub record IsCompleteProposal (s : Parameters) (first : Placed) (later : List Placed) (g : Graph) : Type 0 where
  pub kept : AreKept s (fresh_lists first) g.vertices
  pub edges : HasFirstEdges s (lists_of_lifetime first later) g
  pub complete : IsComplete g
