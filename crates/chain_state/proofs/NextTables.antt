-- The redundant data of the code, after one more block.
use Rattle.std.proofs.Common.{◌≡◌, ℕ, ◌<◌, List, [], ◌∷◌, ◌++◌, length, map, Bool, false, refl, sym, ap, ap₂, subst, ◌∙◌, inl, inr, arith}
use Rattle.std.specs.Prelude.{◌||◌}
use Rattle.std.specs.List.{list_any, AllByRecursion}
use Rattle.std.proofs.lemmas.Bool.{cases_Bool}
use Rattle.std.proofs.lemmas.List.{length-append}
use Rattle.std.proofs.lemmas.List.Folds.{list_any-append}
use Rattle.seq_base.specs.declared.tx.Tx.{Tx}
use Rattle.seq_base.specs.Lists.{holds}
use Rattle.seq_base.specs.Setting.{Parameters}
use Rattle.seq_base.proofs.Points.{or_false}
use Rattle.majority_graph.specs.Graph.{Graph, IsGraph}
use Rattle.fair_update.specs.Updates.{updated}
use Rattle.fair_update.specs.Waiting.{is_complete}
use Rattle.fair_update.proofs.AnyGraph.{IsGraph-updated}
use Rattle.chain_state.specs.Keeping.{KeepsStandings, IsSoundStage, is_among}
use Rattle.chain_state.specs.Lists.{BlockLists}
use Rattle.chain_state.specs.Places.{put_all, still_pending, AreWithin}
use Rattle.chain_state.specs.Standings.{Stage, stage_of, next_stage, stage_holds, stage_waits, Standings, applied}
use Rattle.chain_state.specs.Standings.Stage.{Closed, Pending}
use Rattle.chain_state.specs.Stepping.{AreMade, own_graph, steps_of}
use Rattle.chain_state.proofs.PendingPlaces.{pending_next, put_steps, steps_within, waits_next}
use Rattle.chain_state.proofs.Stands.{stage-closed, stage-pending, stage_holds-of}

sound-of : (g : Graph) → IsGraph g → IsSoundStage (stage_of g)
sound-of g graph =
    elim (cases_Bool (is_complete g)) [
      | inl complete ↦ rw (stage-closed g complete) tt
      | inr missing ↦ rw (stage-pending g missing) graph
    ]

sound-next : (s : Parameters) (late : List (List Tx)) (stage : Stage) → IsSoundStage stage → IsSoundStage (next_stage s late stage)
sound-next s late (Closed batches) sound = tt
sound-next s late (Pending g) graph = sound-of (updated s late g) (IsGraph-updated s late g graph)

holds-next : (s : Parameters) (late : List (List Tx)) (t : Tx) (stage : Stage) → IsSoundStage stage
    → stage_holds t (next_stage s late stage) ≡ stage_holds t stage
holds-next s late t (Closed batches) sound = refl
holds-next s late t (Pending g) graph = stage_holds-of (updated s late g) t (IsGraph-updated s late g graph)

all_sound : (s : Parameters) (late : List (List Tx)) (own : Stage) (stages : List Stage) → IsSoundStage own
    → AllByRecursion IsSoundStage stages → AllByRecursion IsSoundStage (map (next_stage s late) stages ++ own ∷ [])
all_sound s late own [] of_own sound = (of_own, tt)
all_sound s late own (stage ∷ stages) of_own sound = (sound-next s late stage sound.0, all_sound s late own stages of_own sound.1)

all_hold : (s : Parameters) (late : List (List Tx)) (t : Tx) (stages : List Stage) → AllByRecursion IsSoundStage stages
    → list_any (stage_holds t) (map (next_stage s late) stages) ≡ list_any (stage_holds t) stages
all_hold s late t [] sound = refl
all_hold s late t (stage ∷ stages) sound =
    ap (λ (b : Bool). b || list_any (stage_holds t) (map (next_stage s late) stages)) (holds-next s late t stage sound.0)
    ∙ ap (λ (b : Bool). stage_holds t stage || b) (all_hold s late t stages sound.1)

-- all changes that a block makes, from its parts
pub are_made : (c : Standings) (b : BlockLists) (g : Graph) (own : Stage) (vertices : List Tx) (steps : List (ℕ × Stage)) (pending : List ℕ) (waiting : List Tx)
    → g ≡ own_graph c b → IsGraph g → own ≡ stage_of g → vertices ≡ g.vertices → steps ≡ steps_of c b
    → pending ≡ still_pending (steps ++ (length c.stages, own) ∷ [])
    → ((t : Tx) → is_among waiting t ≡ (list_any (λ step. stage_waits t step.1) steps || stage_waits t own))
    → AreMade c b own vertices steps pending waiting
are_made c b g own vertices steps pending waiting g_is graph own_is vertices_are steps_are pending_are waiting_are =
    let own_as : own ≡ stage_of (own_graph c b) = own_is ∙ ap stage_of g_is in
    record {
      graph = subst IsGraph g_is graph;
      own_is = own_as;
      vertices_are = vertices_are ∙ ap (λ (h : Graph). h.vertices) g_is;
      steps_are = steps_are;
      pending_are = pending_are ∙ ap₂ (λ (ss : List (ℕ × Stage)) (stage : Stage). still_pending (ss ++ (length c.stages, stage) ∷ [])) steps_are own_as;
      waiting_are = λ t.
          waiting_are t
          ∙ ap₂ (λ (ss : List (ℕ × Stage)) (stage : Stage). list_any (λ (step : ℕ × Stage). stage_waits t step.1) ss || stage_waits t stage) steps_are own_as
          ∙ ap (λ (x : Bool). list_any (λ (step : ℕ × Stage). stage_waits t step.1) (steps_of c b) || x)
          (sym (or_false (stage_waits t (stage_of (own_graph c b)))))
          ∙ sym (list_any-append (λ (step : ℕ × Stage). stage_waits t step.1) (steps_of c b) ((length c.stages, stage_of (own_graph c b)) ∷ []));
    }

module _ (c : Standings) (b : BlockLists) (own : Stage) (vertices : List Tx) (steps : List (ℕ × Stage)) (pending : List ℕ)
    (used waiting : List Tx) (made : AreMade c b own vertices steps pending waiting) where
  -- the steps stored at their indices, with the block's own at the end
  pub stages_go_on : put_all steps (c.stages ++ own ∷ []) ≡ (applied c b).stages
  stages_go_on =
      ap (λ (ss : List (ℕ × Stage)). put_all ss (c.stages ++ own ∷ [])) made.steps_are
      ∙ put_steps c.setting b.late [] c.stages (own ∷ []) 0 refl
      ∙ ap (λ (stage : Stage). map (next_stage c.setting b.late) c.stages ++ stage ∷ []) made.own_is

  -- each has its index there
  pub made_within : (stages : List Stage) → stages ≡ c.stages ++ own ∷ [] → AreWithin steps stages
  made_within stages are =
      subst (AllByRecursion (λ (step : ℕ × Stage). step.0 < length stages)) (sym made.steps_are)
      (steps_within c.setting b.late 0 (length stages) c.stages (omega (arith, ap length are, length-append c.stages (own ∷ []))))

  pub kept_goes_on : (places_before : List ℕ) (used_before waiting_before : List Tx) → KeepsStandings c.stages places_before used_before waiting_before
      → ((t : Tx) → is_among used t ≡ (is_among used_before t || holds t vertices))
      → KeepsStandings (applied c b).stages pending used waiting
  kept_goes_on places_before used_before waiting_before kept inserted = record {
    sound = all_sound c.setting b.late (stage_of (own_graph c b)) c.stages (sound-of (own_graph c b) made.graph) kept.sound;
    pending_are = made.pending_are ∙ pending_next c.setting b.late 0 (length c.stages) (stage_of (own_graph c b)) c.stages (omega arith);
    used_are = λ t.
        inserted t
        ∙ ap (λ (x : Bool). x || holds t vertices) (kept.used_are t ∙ sym (all_hold c.setting b.late t c.stages kept.sound))
        ∙ ap (λ (x : Bool). list_any (stage_holds t) (map (next_stage c.setting b.late) c.stages) || x)
        (ap (holds t) made.vertices_are ∙ sym (stage_holds-of (own_graph c b) t made.graph) ∙ sym (or_false (stage_holds t (stage_of (own_graph c b)))))
        ∙ sym (list_any-append (stage_holds t) (map (next_stage c.setting b.late) c.stages) (stage_of (own_graph c b) ∷ []));
    waiting_are = λ t.
        made.waiting_are t
        ∙ list_any-append (λ (step : ℕ × Stage). stage_waits t step.1) (steps_of c b) ((length c.stages, stage_of (own_graph c b)) ∷ [])
        ∙ ap (λ (x : Bool). x || (stage_waits t (stage_of (own_graph c b)) || false)) (waits_next c.setting b.late t 0 c.stages)
        ∙ sym (list_any-append (stage_waits t) (map (next_stage c.setting b.late) c.stages) (stage_of (own_graph c b) ∷ []));
  }

-- the same keys in another order
pub kept_reordered : (stages : List Stage) (pending : List ℕ) (used now waiting : List Tx) → KeepsStandings stages pending used waiting
    → ((t : Tx) → is_among now t ≡ is_among used t) → KeepsStandings stages pending now waiting
kept_reordered stages pending used now waiting kept same = record {
  sound = kept.sound;
  pending_are = kept.pending_are;
  used_are = λ t. same t ∙ kept.used_are t;
  waiting_are = kept.waiting_are;
}
