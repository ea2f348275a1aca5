-- The stage of a graph, by the outcome of its batches.
use Rattle.std.proofs.Common.{◌≡◌, List, false, ap, ◌∙◌, arith}
use Rattle.std.proofs.lemmas.Bool.{false_from_ne_true}
use Rattle.std.specs.List.{list_any}
use Rattle.seq_base.specs.declared.tx.Tx.{Tx}
use Rattle.seq_base.specs.Lists.{holds}
use Rattle.seq_base.specs.Setting.{Parameters}
use Rattle.majority_graph.specs.Graph.{Graph, IsGraph, IsComplete, IsFirstMissing}
use Rattle.batch_laws.specs.Reached.{batches_of}
use Rattle.fair_finalize.specs.Causes.{IsLeastMissing}
use Rattle.fair_update.specs.Waiting.{is_complete, waiting_of}
use Rattle.fair_update.proofs.GraphTests.{complete_decides}
use Rattle.chain_state.specs.Standings.{stage_of, next_stage}
use Rattle.chain_state.specs.Standings.Stage.{Closed, Pending}
use Rattle.chain_state.proofs.Stands.{stage-closed, stage-pending}
use Rattle.chain_state.proofs.Untouched.{untouched-updated}

pub incomplete : (g : Graph) (u v : Tx) → IsGraph g → IsLeastMissing g u v → is_complete g ≡ false
incomplete g u v graph least =
    let first : IsFirstMissing g least.0 least.1 = least.2 in
    false_from_ne_true (is_complete g) (λ complete.
    (complete_decides g graph).0 complete least.0 least.1 (omega (arith, first.ordered, first.inside)) first.inside
    (λ same. absurd (omega (arith, same, first.ordered))) first.missing)

pub closed-stage : (g : Graph) → IsGraph g → IsComplete g → stage_of g ≡ Closed (batches_of g)
closed-stage g graph complete = stage-closed g ((complete_decides g graph).1 complete)

-- a pending one is unchanged where none of its waiting transactions is listed late
pub untouched-stage : (s : Parameters) (late : List (List Tx)) (g : Graph) → IsGraph g → is_complete g ≡ false
    → list_any (λ t. list_any (holds t) late) (waiting_of g) ≡ false
    → next_stage s late (Pending g) ≡ Pending g
untouched-stage s late g graph incomplete untouched = ap stage_of (untouched-updated s late g graph untouched) ∙ stage-pending g incomplete
