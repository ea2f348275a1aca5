-- A chain with one more block, and with more blocks.
use Rattle.std.proofs.Common.{◌≡◌, List, [], ◌∷◌, ◌++◌, map, Bool, refl, sym, ap, ◌∙◌, inl, inr}
use Rattle.std.specs.Prelude.{◌||◌}
use Rattle.std.specs.List.{list_any}
use Rattle.std.proofs.lemmas.Bool.{cases_Bool}
use Rattle.std.proofs.lemmas.List.{append_assoc, map-append}
use Rattle.std.proofs.lemmas.List.Folds.{list_any-append}
use Rattle.seq_base.specs.declared.tx.Tx.{Tx}
use Rattle.seq_base.specs.Lists.{holds}
use Rattle.seq_base.specs.Setting.{Parameters}
use Rattle.seq_base.proofs.Points.{or_false}
use Rattle.majority_graph.specs.Graph.{Graph}
use Rattle.batch_laws.specs.Reached.{batches_of}
use Rattle.fair_laws.specs.Kept.{kept_by, proposal_of}
use Rattle.fair_update.specs.Updates.{updated}
use Rattle.fair_update.specs.Waiting.{is_complete}
use Rattle.chain_state.specs.Lists.{BlockLists}
use Rattle.chain_state.specs.Proposals.{graph_over, proposals, used_in, final_of}
use Rattle.chain_state.proofs.Tables.{late_of, graph_over-one, updated_is, graph_over-stays}

-- one more block updates the proposals before it, and adds its own
pub proposals-more : (s : Parameters) (chain : List BlockLists) (b : BlockLists)
    → proposals s (chain ++ b ∷ []) ≡ map (updated s b.late) (proposals s chain) ++ proposal_of s b.fresh ∷ []
proposals-more s [] b = ap (λ (g : Graph). g ∷ []) (graph_over-one s (kept_by s b.fresh) b.fresh)
proposals-more s (first ∷ chain) b =
    let head : graph_over s (kept_by s first.fresh) (first.fresh ∷ map late_of (chain ++ b ∷ []))
    ≡ updated s b.late (graph_over s (kept_by s first.fresh) (first.fresh ∷ map late_of chain)) =
    ap (λ (later : List (List (List Tx))). graph_over s (kept_by s first.fresh) (first.fresh ∷ later)) (map-append late_of chain (b ∷ []))
    ∙ sym (updated_is s (kept_by s first.fresh) (first.fresh ∷ map late_of chain) b.late) in
    rw (head, proposals-more s chain b) refl

-- only a block's own lists determine which transactions it proposes
pub proposals-vertices : (s : Parameters) (chain : List BlockLists)
    → map (λ (g : Graph). g.vertices) (proposals s chain) ≡ map (λ (b : BlockLists). kept_by s b.fresh) chain
proposals-vertices s [] = refl
proposals-vertices s (b ∷ chain) = ap (λ (rest : List (List Tx)). kept_by s b.fresh ∷ rest) (proposals-vertices s chain)

pub used_in-is : (s : Parameters) (chain : List BlockLists) (t : Tx) → used_in s chain t ≡ list_any (λ b. holds t (kept_by s b.fresh)) chain
used_in-is s [] t = refl
used_in-is s (b ∷ chain) t = ap (λ (rest : Bool). holds t (kept_by s b.fresh) || rest) (used_in-is s chain t)

pub used_in-more : (s : Parameters) (chain : List BlockLists) (b : BlockLists) (t : Tx)
    → used_in s (chain ++ b ∷ []) t ≡ (used_in s chain t || holds t (kept_by s b.fresh))
used_in-more s chain b t =
    used_in-is s (chain ++ b ∷ []) t
    ∙ list_any-append (λ (c : BlockLists). holds t (kept_by s c.fresh)) chain (b ∷ [])
    ∙ rw (← used_in-is s chain t, or_false (holds t (kept_by s b.fresh))) refl

-- the final list of a longer chain extends it
pub final_of-extends : (s : Parameters) (chain more : List BlockLists) → (rest : List (List Tx)) × (final_of s (chain ++ more) ≡ final_of s chain ++ rest)
final_of-extends s [] more = (final_of s more, refl)
final_of-extends s (b ∷ chain) more =
    let g : Graph = graph_over s (kept_by s b.fresh) (b.fresh ∷ map late_of chain) in
    let h : Graph = graph_over s (kept_by s b.fresh) (b.fresh ∷ map late_of (chain ++ more)) in
    let split : h ≡ graph_over s (kept_by s b.fresh) (b.fresh ∷ map late_of chain ++ map late_of more) =
    ap (λ (later : List (List (List Tx))). graph_over s (kept_by s b.fresh) (b.fresh ∷ later)) (map-append late_of chain more) in
    elim (cases_Bool (is_complete g)) [
      | inl complete ↦
          let same : h ≡ g = split ∙ graph_over-stays s (kept_by s b.fresh) (b.fresh ∷ map late_of chain) (map late_of more) complete in
          let rest : (rest : List (List Tx)) × (final_of s (chain ++ more) ≡ final_of s chain ++ rest) = final_of-extends s chain more in
          (rest.0, rw (same, complete, rest.1) (sym (append_assoc (batches_of g) (final_of s chain) rest.0)))
      | inr missing ↦ (final_of s (b ∷ chain ++ more), rw missing refl)
    ]
