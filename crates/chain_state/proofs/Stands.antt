-- A state answers as the proposals of its chain do.
use Rattle.std.proofs.Common.{◌≡◌, List, [], ◌∷◌, ◌++◌, map, Bool, true, false, refl, sym, ap, ◌∙◌, append_assoc, inl, inr}
use Rattle.std.specs.Prelude.{◌||◌, All}
use Rattle.std.specs.List.{list_any, AllByRecursion}
use Rattle.std.proofs.lemmas.Bool.{cases_Bool, false_from_ne_true}
use Rattle.std.proofs.lemmas.List.{append-nil, map-append}
use Rattle.std.proofs.lemmas.List.Elements.{All-append, All-cons, All-nil, recursion_from_All}
use Rattle.std.proofs.lemmas.Option.{slice_get_within}
use Rattle.seq_base.specs.declared.tx.Tx.{Tx}
use Rattle.seq_base.specs.Lists.{AreFresh, holds}
use Rattle.seq_base.specs.Setting.{Parameters}
use Rattle.majority_graph.specs.Graph.{Graph, IsGraph}
use Rattle.batch_laws.specs.Reached.{batches_of}
use Rattle.fair_laws.specs.Kept.{proposal_of}
use Rattle.fair_update.specs.Updates.{updated}
use Rattle.fair_update.specs.Waiting.{waits, Waits, is_complete}
use Rattle.fair_update.proofs.AnyGraph.{complete-updated}
use Rattle.fair_update.proofs.GraphTests.{waits_decides, complete_decides}
use Rattle.chain_state.specs.Lists.{BlockLists}
use Rattle.chain_state.specs.Proposals.{proposals, used_in, waiting_in, final_batches, final_of}
use Rattle.chain_state.specs.Standings.{Stage, stage_of, next_stage, stage_holds, stage_waits, closed_batches, Standings, applied, all_applied, is_used, is_waiting, finals, standing_for}
use Rattle.chain_state.specs.Standings.Stage.{Closed, Pending}
use Rattle.chain_state.proofs.Parts.{batches_hold}
use Rattle.chain_state.proofs.Meanings.{proposals_are_graphs}
use Rattle.chain_state.proofs.Steps.{proposals-more}

pub stage-closed : (g : Graph) → is_complete g ≡ true → stage_of g ≡ Closed (batches_of g)
stage-closed g complete = rw complete refl

pub stage-pending : (g : Graph) → is_complete g ≡ false → stage_of g ≡ Pending g
stage-pending g missing = rw missing refl

one_on : (s : Parameters) (late : List (List Tx)) (g : Graph) → IsGraph g → stage_of (updated s late g) ≡ next_stage s late (stage_of g)
one_on s late g graph =
    elim (cases_Bool (is_complete g)) [
      | inl complete ↦
          let same : updated s late g ≡ g = complete-updated s late g graph ((complete_decides g graph).0 complete) in
          ap stage_of same ∙ stage-closed g complete ∙ sym (ap (next_stage s late) (stage-closed g complete))
      | inr missing ↦ sym (ap (next_stage s late) (stage-pending g missing))
    ]

all_on : (s : Parameters) (late : List (List Tx)) (gs : List Graph) → AllByRecursion IsGraph gs
    → map stage_of (map (updated s late) gs) ≡ map (next_stage s late) (map stage_of gs)
all_on s late [] all = refl
all_on s late (g ∷ gs) all =
    ap (λ (x : Stage). x ∷ map stage_of (map (updated s late) gs)) (one_on s late g all.0)
    ∙ ap (λ (rest : List Stage). next_stage s late (stage_of g) ∷ rest) (all_on s late gs all.1)

abbrev pub with_stages : Parameters → List Stage → Standings
with_stages s stages = record { setting = s; stages = stages }

-- one more block
pub standing-more : (s : Parameters) (chain : List BlockLists) (b : BlockLists) → All (λ c. AreFresh c.fresh) chain
    → standing_for s (chain ++ b ∷ []) ≡ applied (standing_for s chain) b
standing-more s chain b short =
    ap (with_stages s) (ap (map stage_of) (proposals-more s chain b)
    ∙ map-append stage_of (map (updated s b.late) (proposals s chain)) (proposal_of s b.fresh ∷ [])
    ∙ ap (λ (ss : List Stage). ss ++ stage_of (proposal_of s b.fresh) ∷ [])
    (all_on s b.late (proposals s chain) (recursion_from_All IsGraph (proposals s chain) (proposals_are_graphs s chain short))))

abbrev IsFreshBlock : BlockLists → Type 0
IsFreshBlock b = AreFresh b.fresh

all_stand_from : (s : Parameters) (before later : List BlockLists) → All IsFreshBlock before → AllByRecursion IsFreshBlock later
    → all_applied (standing_for s before) later ≡ standing_for s (before ++ later)
all_stand_from s before [] short rest = ap (standing_for s) (sym (append-nil before))
all_stand_from s before (b ∷ later) short rest =
    ap (λ (c : Standings). all_applied c later) (sym (standing-more s before b short))
    ∙ all_stand_from s (before ++ b ∷ []) later
    (All-append IsFreshBlock before (b ∷ []) short (All-cons IsFreshBlock b [] rest.0 (All-nil IsFreshBlock))) rest.1
    ∙ ap (standing_for s) (append_assoc before (b ∷ []) later)

-- a whole chain, block by block
pub all_stand : (s : Parameters) (chain : List BlockLists) → All (λ b. AreFresh b.fresh) chain → all_applied (standing_for s []) chain ≡ standing_for s chain
all_stand s chain short = all_stand_from s [] chain (All-nil IsFreshBlock) (recursion_from_All IsFreshBlock chain short)

pub stage_holds-of : (g : Graph) (t : Tx) → IsGraph g → stage_holds t (stage_of g) ≡ holds t g.vertices
stage_holds-of g t graph =
    elim (cases_Bool (is_complete g)) [
      | inl complete ↦ ap (stage_holds t) (stage-closed g complete) ∙ batches_hold g graph ((complete_decides g graph).0 complete) t
      | inr missing ↦ ap (stage_holds t) (stage-pending g missing)
    ]

none_of_complete : (g : Graph) (t : Tx) → IsGraph g → is_complete g ≡ true → waits g t ≡ false
none_of_complete g t graph complete =
    false_from_ne_true (waits g t) (λ is.
    let pair : Waits g t = (waits_decides g graph t).0 is in
    (complete_decides g graph).0 complete pair.0 pair.1 (slice_get_within g.vertices pair.0 t pair.2.from) pair.2.to pair.2.apart pair.2.missing)

stage_waits-of : (g : Graph) (t : Tx) → IsGraph g → stage_waits t (stage_of g) ≡ waits g t
stage_waits-of g t graph =
    elim (cases_Bool (is_complete g)) [
      | inl complete ↦ ap (stage_waits t) (stage-closed g complete) ∙ sym (none_of_complete g t graph complete)
      | inr missing ↦ ap (stage_waits t) (stage-pending g missing)
    ]

-- a test of stages, and of their graphs
any_stage : (p : Stage → Bool) (q : Graph → Bool) → ((g : Graph) → IsGraph g → p (stage_of g) ≡ q g) → (gs : List Graph)
    → AllByRecursion IsGraph gs → list_any p (map stage_of gs) ≡ list_any q gs
any_stage p q same [] all = refl
any_stage p q same (g ∷ gs) all =
    ap (λ (b : Bool). b || list_any p (map stage_of gs)) (same g all.0) ∙ ap (λ (b : Bool). q g || b) (any_stage p q same gs all.1)

closed-final : (gs : List Graph) → closed_batches (map stage_of gs) ≡ final_batches gs
closed-final [] = refl
closed-final (g ∷ gs) =
    elim (cases_Bool (is_complete g)) [
      | inl complete ↦
          ap (λ (x : Stage). closed_batches (x ∷ map stage_of gs)) (stage-closed g complete)
          ∙ ap (λ (batches : List (List Tx)). batches_of g ++ batches) (closed-final gs) ∙ rw complete refl
      | inr missing ↦ ap (λ (x : Stage). closed_batches (x ∷ map stage_of gs)) (stage-pending g missing) ∙ rw missing refl
    ]

pub used_stands : (s : Parameters) (chain : List BlockLists) (t : Tx) → All (λ c. AreFresh c.fresh) chain → is_used (standing_for s chain) t ≡ used_in s chain t
used_stands s chain t short =
    any_stage (stage_holds t) (λ (g : Graph). holds t g.vertices) (λ g graph. stage_holds-of g t graph) (proposals s chain)
    (recursion_from_All IsGraph (proposals s chain) (proposals_are_graphs s chain short))

pub waiting_stands : (s : Parameters) (chain : List BlockLists) (t : Tx) → All (λ c. AreFresh c.fresh) chain
    → is_waiting (standing_for s chain) t ≡ waiting_in s chain t
waiting_stands s chain t short =
    any_stage (stage_waits t) (λ (g : Graph). waits g t) (λ g graph. stage_waits-of g t graph) (proposals s chain)
    (recursion_from_All IsGraph (proposals s chain) (proposals_are_graphs s chain short))

pub final_stands : (s : Parameters) (chain : List BlockLists) → finals (standing_for s chain) ≡ final_of s chain
final_stands s chain = closed-final (proposals s chain)
