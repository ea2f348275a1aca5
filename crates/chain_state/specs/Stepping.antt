-- The effect of a block on a proposal, seen as a stage with its index, and on the whole state.
use Rattle.std.specs.Prelude.{◌≡◌, ℕ, List, [], ◌∷◌, ◌++◌, length}
use Rattle.std.specs.List.{list_any}
use Rattle.seq_base.specs.declared.tx.Tx.{Tx}
use Rattle.majority_graph.specs.Graph.{Graph, IsGraph}
use Rattle.fair_laws.specs.Kept.{proposal_of}
use Rattle.chain_state.specs.declared.stepping.Stepped.{Stepped}
use Rattle.chain_state.specs.Keeping.{is_among}
use Rattle.chain_state.specs.Lists.{BlockLists}
use Rattle.chain_state.specs.Places.{steps_from, still_pending}
use Rattle.chain_state.specs.Shown.{shown}
use Rattle.chain_state.specs.Standings.{Stage, Standings, stage_of, next_stage, stage_waits}

abbrev pub placed : Stepped → ℕ × Stage
placed step = (step.place, shown step.standing)

-- what a block proposes
abbrev pub own_graph : Standings → BlockLists → Graph
own_graph c b = proposal_of c.setting b.fresh

-- the pending proposals after a block
abbrev pub steps_of : Standings → BlockLists → List (ℕ × Stage)
steps_of c b = steps_from (next_stage c.setting b.late) 0 c.stages

-- the same, followed by the block's own
abbrev pub with_own : Standings → BlockLists → List (ℕ × Stage)
with_own c b = steps_of c b ++ (length c.stages, stage_of (own_graph c b)) ∷ []

-- all that a state needs to apply a block
pub record AreMade (c : Standings) (b : BlockLists) (own : Stage) (vertices : List Tx) (steps : List (ℕ × Stage)) (pending : List ℕ)
    (waiting : List Tx) : Type 0 where
  pub graph : IsGraph (own_graph c b)
  pub own_is : own ≡ stage_of (own_graph c b)
  pub vertices_are : vertices ≡ (own_graph c b).vertices
  pub steps_are : steps ≡ steps_of c b
  pub pending_are : pending ≡ still_pending (with_own c b)
  pub waiting_are : (t : Tx) → is_among waiting t ≡ list_any (λ step. stage_waits t step.1) (with_own c b)
