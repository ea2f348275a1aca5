-- The state of a chain: the batches of each complete proposal, and the graph of each incomplete one.
use Rattle.std.specs.Prelude.{ℕ, ◌-◌, ◌^◌, min, List, [], ◌∷◌, ◌++◌, length, map, Bool, false, ◌&&◌, not, if◌then◌else◌}
use Rattle.std.specs.List.{list_any, list_all}
use Rattle.seq_base.specs.declared.tx.Tx.{Tx}
use Rattle.seq_base.specs.declared.digest.Digest.{Digest}
use Rattle.seq_base.specs.declared.order.LocalOrder.{LocalOrder}
use Rattle.seq_base.specs.Lists.{holds}
use Rattle.seq_base.specs.Setting.{Parameters}
use Rattle.majority_graph.specs.Graph.{Graph}
use Rattle.batch_laws.specs.Reached.{batches_of}
use Rattle.fair_laws.specs.Kept.{proposal_of}
use Rattle.fair_update.specs.Updates.{updated}
use Rattle.fair_update.specs.Waiting.{waits, is_complete}
use Rattle.chain_state.specs.Drawn.{drawn}
use Rattle.chain_state.specs.Lists.{BlockLists}
use Rattle.chain_state.specs.Proposals.{proposals, joined}

pub data Stage : Type 0 where
  Closed : List (List Tx) → Stage
  Pending : Graph → Stage

abbrev pub stage_of : Graph → Stage
stage_of g = if is_complete g then Closed (batches_of g) else Pending g

-- after one more block; a closed one stays
abbrev pub next_stage : Parameters → List (List Tx) → Stage → Stage
next_stage s late (Closed batches) = Closed batches
next_stage s late (Pending g) = stage_of (updated s late g)

abbrev pub stage_holds : Tx → Stage → Bool
stage_holds t (Closed batches) = list_any (holds t) batches
stage_holds t (Pending g) = holds t g.vertices

abbrev pub stage_waits : Tx → Stage → Bool
stage_waits t (Closed batches) = false
stage_waits t (Pending g) = waits g t

-- the batches up to the first that is pending
abbrev pub closed_batches : List Stage → List (List Tx)
closed_batches [] = []
closed_batches (Closed batches ∷ rest) = batches ++ closed_batches rest
closed_batches (Pending g ∷ rest) = []

-- the setting, and the proposals of the blocks applied
pub record Standings : Type 0 where
  pub setting : Parameters
  pub stages : List Stage

abbrev pub is_used : Standings → Tx → Bool
is_used c t = list_any (stage_holds t) c.stages

abbrev pub is_waiting : Standings → Tx → Bool
is_waiting c t = list_any (stage_waits t) c.stages

-- no fresh entry of the order is used, and each late one waits
abbrev pub fits : Standings → LocalOrder → Bool
fits c order = list_all (λ t. not (is_used c t)) order.fresh && list_all (is_waiting c) order.late

abbrev pub finals : Standings → List (List Tx)
finals c = closed_batches c.stages

-- a number, at most the maximum of usize
abbrev pub at_most_usize : ℕ → ℕ
at_most_usize count = min count (2 ^ 64 - 1)

-- the number of transactions in the final list
abbrev pub final_count : Standings → ℕ
final_count c = at_most_usize (length (joined (finals c)))

-- the number of batches in the final list
abbrev pub batch_count : Standings → ℕ
batch_count c = at_most_usize (length (finals c))

-- after one more block
abbrev pub applied : Standings → BlockLists → Standings
applied c b = record { setting = c.setting; stages = map (next_stage c.setting b.late) c.stages ++ stage_of (proposal_of c.setting b.fresh) ∷ [] }

-- after all these blocks
abbrev pub all_applied : Standings → List BlockLists → Standings
all_applied c [] = c
all_applied c (b ∷ later) = all_applied (applied c b) later

-- the order that a replica draws from what it knows
abbrev pub order_drawn : ℕ → ℕ → Digest → List Tx → Standings → LocalOrder
order_drawn replica view parent known c = record {
  replica = replica;
  view = view;
  parent = parent;
  fresh = drawn 128 (λ t. not (is_used c t)) known;
  late = drawn 256 (is_waiting c) known;
}

-- the state of a chain
abbrev pub standing_for : Parameters → List BlockLists → Standings
standing_for s chain = record { setting = s; stages = map stage_of (proposals s chain) }
