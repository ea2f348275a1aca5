-- The meaning of used, waiting and final.
use Rattle.std.proofs.Common.{◌≡◌, ℕ, suc, List, [], ◌∷◌, ◌++◌, get_or, map, take, Bool, true, refl, ap, subst, inl, inr, arith}
use Rattle.std.specs.Prelude.{All, Any, Contains}
use Rattle.std.specs.Bool.{Decides}
use Rattle.std.specs.List.{list_any, AllByRecursion}
use Rattle.std.proofs.lemmas.Bool.{cases_Bool, both_ways}
use Rattle.std.proofs.lemmas.List.Elements.{recursion_from_All, All-from_recursion, All-nil, All-cons}
use Rattle.std.proofs.lemmas.List.Folds.{Any-from_list_any, list_any-from_Any}
use Rattle.seq_base.specs.declared.tx.Tx.{Tx}
use Rattle.seq_base.specs.Lists.{AreFresh, holds}
use Rattle.seq_base.specs.Setting.{Parameters}
use Rattle.seq_base.specs.Tx.{tx_eq, tx_eq_decides}
use Rattle.majority_graph.specs.Graph.{Graph, IsGraph, IsComplete}
use Rattle.batch_laws.specs.Reached.{batches_of}
use Rattle.fair_laws.specs.Kept.{kept_by}
use Rattle.fair_laws.proofs.ComputedLists.{are_kept_of, few_kept}
use Rattle.fair_update.specs.Waiting.{waits, Waits, is_complete}
use Rattle.fair_update.proofs.GraphTests.{waits_decides, complete_decides}
use Rattle.chain_state.specs.Lists.{BlockLists}
use Rattle.chain_state.specs.Proposals.{graph_over, proposals, used_in, waiting_in, final_batches, final_of, IsUsed, IsWaiting, AreFinalBatches}
use Rattle.chain_state.proofs.Tables.{late_of, IsGraph-graph_over}

-- what the fresh lists keep, with the edges of a chain, is a graph
pub proposal_is_graph : (s : Parameters) (b : BlockLists) (later : List BlockLists) → AreFresh b.fresh
    → IsGraph (graph_over s (kept_by s b.fresh) (b.fresh ∷ map late_of later))
proposal_is_graph s b later fresh =
    IsGraph-graph_over s (kept_by s b.fresh) (b.fresh ∷ map late_of later) (are_kept_of s b.fresh fresh).ascending (few_kept s b.fresh fresh)

-- each proposal of a chain of short lists is a graph
graphs_of : (s : Parameters) (chain : List BlockLists) → AllByRecursion (λ b. AreFresh b.fresh) chain → AllByRecursion IsGraph (proposals s chain)
graphs_of s [] short = tt
graphs_of s (b ∷ chain) short = (proposal_is_graph s b chain short.0, graphs_of s chain short.1)

pub proposals_are_graphs : (s : Parameters) (chain : List BlockLists) → All (λ b. AreFresh b.fresh) chain → All IsGraph (proposals s chain)
proposals_are_graphs s chain short =
    All-from_recursion IsGraph (proposals s chain) (graphs_of s chain (recursion_from_All (λ (b : BlockLists). AreFresh b.fresh) chain short))

-- a test of elements that decides a property of some of them, over lists of these
any_decides : {X : Type 0} (Q : X → Type 0) (p : X → Bool) (P : X → Type 0) (xs : List X) → ((x : X) → Q x → Decides (p x) (P x)) → All Q xs
    → Decides (list_any p xs) (Any P xs)
any_decides Q p P xs each all = (
  (λ passes.
      let found : Any (λ x. p x ≡ true) xs = Any-from_list_any p xs passes in
      (found.0, found.1, found.2, found.3, (each found.1 (subst Q found.3 (all found.0 found.1 found.2))).0 found.4)),
  (λ found. list_any-from_Any p xs
      (found.0, found.1, found.2, found.3, (each found.1 (subst Q found.3 (all found.0 found.1 found.2))).1 found.4)),
)

holds_decides : (t : Tx) (xs : List Tx) → Decides (holds t xs) (Contains xs t)
holds_decides t xs = (
  (λ passes.
      let found : Any (λ x. tx_eq x t ≡ true) xs = Any-from_list_any (λ (x : Tx). tx_eq x t) xs passes in
      let is : found.1 ≡ t = (tx_eq_decides found.1 t).0 found.4 in
      (found.0, found.2, subst (λ (x : Tx). get_or xs found.0 x ≡ x) is found.3)),
  (λ found. list_any-from_Any (λ (x : Tx). tx_eq x t) xs (found.0, t, found.1, found.2, (tx_eq_decides t t).1 refl)),
)

pub used_decides : (s : Parameters) (chain : List BlockLists) (t : Tx) → Decides (used_in s chain t) (IsUsed s chain t)
used_decides s chain t =
    any_decides (λ (g : Graph). Unit {0}) (λ (g : Graph). holds t g.vertices) (λ (g : Graph). Contains g.vertices t) (proposals s chain)
    (λ g any. holds_decides t g.vertices) (λ k d inside. tt)

pub waiting_decides : (s : Parameters) (chain : List BlockLists) (t : Tx) → All (λ b. AreFresh b.fresh) chain
    → Decides (waiting_in s chain t) (IsWaiting s chain t)
waiting_decides s chain t short =
    any_decides IsGraph (λ (g : Graph). waits g t) (λ (g : Graph). Waits g t) (proposals s chain) (λ g graph. waits_decides g graph t)
    (proposals_are_graphs s chain short)

abbrev Final : List Graph → Type 0
Final graphs = (many : ℕ) × AreFinalBatches graphs (final_batches graphs) many

finals_are : (graphs : List Graph) → AllByRecursion IsGraph graphs → Final graphs
finals_are [] all =
    (0, record { inside = omega arith; complete = All-nil IsComplete; next = λ below. absurd (omega (arith, below)); theirs = refl })
finals_are (g ∷ graphs) all =
    elim (cases_Bool (is_complete g)) [
      | inl complete ↦
          let rest : Final graphs = finals_are graphs all.1 in (
            suc rest.0,
            record {
              inside = omega (arith, rest.1.inside);
              complete = All-cons IsComplete g (take rest.0 graphs) ((complete_decides g all.0).0 complete) rest.1.complete;
              next = λ below. rest.1.next (omega (arith, below));
              theirs = rw complete (ap (λ (batches : List (List Tx)). batches_of g ++ batches) rest.1.theirs);
            },
          )
      | inr missing ↦ (
        0,
        record {
          inside = omega arith;
          complete = All-nil IsComplete;
          next = λ below d whole. both_ways (is_complete g) missing ((complete_decides g all.0).1 whole);
          theirs = rw missing refl;
        },
      )
    ]

pub final_of-is : (s : Parameters) (chain : List BlockLists) → All (λ b. AreFresh b.fresh) chain
    → (many : ℕ) × AreFinalBatches (proposals s chain) (final_of s chain) many
final_of-is s chain short = finals_are (proposals s chain) (recursion_from_All IsGraph (proposals s chain) (proposals_are_graphs s chain short))
