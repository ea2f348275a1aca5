-- Redundant data that the code stores next to the stages, to avoid searching them.
use Rattle.std.specs.Prelude.{◌≡◌, ℕ, List, Bool, false}
use Rattle.std.specs.List.{list_any, AllByRecursion}
use Rattle.seq_base.specs.declared.tx.Tx.{Tx}
use Rattle.seq_base.specs.Lists.{holds}
use Rattle.seq_base.specs.Tx.{tx_eq}
use Rattle.majority_graph.specs.Graph.{Graph, IsGraph}
use Rattle.fair_update.specs.Waiting.{waiting_of, is_complete}
use Rattle.chain_state.specs.Places.{pending_from}
use Rattle.chain_state.specs.Standings.{Stage, stage_holds, stage_waits}
use Rattle.chain_state.specs.Standings.Stage.{Closed, Pending}

-- whether t is one of these keys
abbrev pub is_among : List Tx → Tx → Bool
is_among keys t = list_any (tx_eq t) keys

-- the keys are what the lists hold
abbrev pub AreListed : List (List Tx) → List Tx → Type 0
AreListed lists keys = (t : Tx) → is_among keys t ≡ list_any (holds t) lists

-- the data of a pending proposal
pub record IsPending (g : Graph) (waiting : List Tx) : Type 0 where
  pub graph : IsGraph g
  pub waiting_are : waiting ≡ waiting_of g
  pub incomplete : is_complete g ≡ false

-- a pending stage has a graph
abbrev pub IsSoundStage : Stage → Type 0
IsSoundStage (Closed batches) = Unit {0}
IsSoundStage (Pending g) = IsGraph g

-- which stages are pending, and which transactions are in the stages and wait there
pub record KeepsStandings (stages : List Stage) (pending : List ℕ) (used waiting : List Tx) : Type 0 where
  pub sound : AllByRecursion IsSoundStage stages
  pub pending_are : pending ≡ pending_from 0 stages
  pub used_are : (t : Tx) → is_among used t ≡ list_any (stage_holds t) stages
  pub waiting_are : (t : Tx) → is_among waiting t ≡ list_any (stage_waits t) stages
