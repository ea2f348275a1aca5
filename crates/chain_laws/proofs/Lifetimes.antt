-- Where few lists reverse a and b, in each block until one gives the pair an edge, that edge leads from a to b.
use Rattle.std.proofs.Common.{◌≡◌, ◌≢◌, ℕ, zero, suc, ◌<◌, ◌≤◌, List, [], ◌∷◌, map, take, true, Some, refl, sym, ap, subst, ◌∙◌, inl, inr}
use Rattle.std.specs.Prelude.{All, slice_get}
use Rattle.std.proofs.lemmas.Bool.{cases_eq}
use Rattle.std.proofs.lemmas.List.{take-map}
use Rattle.std.proofs.lemmas.List.Elements.{All-head, All-tail}
use Rattle.std.proofs.lemmas.Option.{slice_get_within, same_Some}
use Rattle.seq_base.specs.declared.tx.Tx.{Tx}
use Rattle.seq_base.specs.Setting.{Parameters, threshold_of}
use Rattle.seq_base.proofs.Members.{holds_place}
use Rattle.majority_graph.specs.declared.edge.Edge.{Edge}
use Rattle.majority_graph.specs.declared.edge.Edge.TheVariants.{To, From, Missing}
use Rattle.majority_graph.specs.Edges.{edge_between, opposite_of}
use Rattle.majority_graph.specs.Graph.{Graph, HasEdge, edge_at}
use Rattle.majority_graph.specs.Later.{or_edge, first_edge}
use Rattle.majority_graph.specs.Walks.{Walks}
use Rattle.majority_graph.proofs.EdgeLaws.{edge_opposite}
use Rattle.batch_laws.specs.Batches.{StandsIn, AreBatches}
use Rattle.batch_laws.proofs.WalkJoins.{walk_edge, walk_same}
use Rattle.fair_laws.specs.Kept.{IsKept, GiveEdge}
use Rattle.fair_laws.specs.Earlier.{without_earlier}
use Rattle.fair_laws.proofs.BatchFairness.{not_later}
use Rattle.chain_laws.specs.Drawn.{Placed, fresh_lists, late_lists}
use Rattle.chain_laws.specs.Lifetime.{lists_of_lifetime, WaitsWhileMissing, IsCompleteProposal}

-- Few lists never give the edge back, and the first edge goes one way.
pub record EdgesStand (s : Parameters) : Type 0 where
  pub few_give_none : (lists : List (List Tx)) (a b : Tx) → without_earlier lists b a < threshold_of s → GiveEdge s lists b a → ⊥
  pub one_way : (blocks : List (List (List Tx))) (u v : Tx) → first_edge s blocks u v ≡ opposite_of (first_edge s blocks v u)

-- few lists of each block reverse a and b until one gives the edge
FewUntilGiven : Parameters → List (List (List Tx)) → Tx → Tx → Type 0
FewUntilGiven s blocks a b = (k : ℕ) (lists : List (List Tx)) → slice_get blocks k ≡ Some lists → first_edge s (take k blocks) a b ≡ Missing
    → without_earlier lists b a < threshold_of s

few_after : (s : Parameters) (lists : List (List Tx)) (blocks : List (List (List Tx))) (a b : Tx) → FewUntilGiven s (lists ∷ blocks) a b
    → edge_between s lists a b ≡ Missing → FewUntilGiven s blocks a b
unfolding FewUntilGiven
few_after s lists blocks a b few none k found at missing =
    few (suc k) found at (ap (λ (e : Edge). or_edge e (first_edge s (take k blocks) a b)) none ∙ missing)

module _ (s : Parameters) (edges : EdgesStand s) where
  none_back : (blocks : List (List (List Tx))) (a b : Tx) → FewUntilGiven s blocks a b → first_edge s blocks b a ≡ To → ⊥
  unfolding FewUntilGiven
  none_back [] a b few is = (cc)
  none_back (lists ∷ blocks) a b few is =
      go (edge_between s lists b a) refl
      (λ none later. none_back blocks a b (few_after s lists blocks a b few (edge_opposite s lists a b ∙ ap opposite_of none)) later)
    where
      go : (e : Edge) → edge_between s lists b a ≡ e → (edge_between s lists b a ≡ Missing → first_edge s blocks b a ≡ To → ⊥) → ⊥
      go To here onward = edges.few_give_none lists a b (few 0 lists refl refl) here
      go From here onward =
          let from : or_edge From (first_edge s blocks b a) ≡ To = ap (λ (e : Edge). or_edge e (first_edge s blocks b a)) (sym here) ∙ is in (cc)
      go Missing here onward = onward here (ap (λ (e : Edge). or_edge e (first_edge s blocks b a)) (sym here) ∙ is)

  forward_if_given : (blocks : List (List (List Tx))) (a b : Tx) → FewUntilGiven s blocks a b → first_edge s blocks a b ≢ Missing → first_edge s blocks a b ≡ To
  forward_if_given blocks a b few given = go (first_edge s blocks a b) refl
    where
      go : (e : Edge) → first_edge s blocks a b ≡ e → first_edge s blocks a b ≡ To
      go To is = is
      go From is = absurd (none_back blocks a b few (edges.one_way blocks b a ∙ ap opposite_of is))
      go Missing is = absurd (given is)

-- an element of a list of images is the image of the element at that position
image_at : (blocks : List Placed) (k : ℕ) (lists : List (List Tx)) → slice_get (map late_lists blocks) k ≡ Some lists
    → (block : Placed) × (slice_get blocks k ≡ Some block) × (lists ≡ late_lists block)
image_at [] k lists at = absurd (cc)
image_at (block ∷ blocks) zero lists at = (block, refl, sym (same_Some (late_lists block) lists at))
image_at (block ∷ blocks) (suc k) lists at = image_at blocks k lists at

pub block_at : (P : Placed → Type 0) (blocks : List Placed) (k : ℕ) (block : Placed) → All P blocks → slice_get blocks k ≡ Some block → P block
block_at P [] k block all at = absurd (cc)
block_at P (x ∷ blocks) zero block all at = subst P (same_Some x block at) (All-head P x blocks all)
block_at P (x ∷ blocks) (suc k) block all at = block_at P blocks k block (All-tail P x blocks all) at

-- Where few fresh lists of the first block reverse a and b, and few late lists of each later one for which a waits.
module _ (s : Parameters) (edges : EdgesStand s) (first : Placed) (later : List Placed) (a b : Tx)
    (few_fresh : without_earlier (fresh_lists first) b a < threshold_of s)
    (few_late : All (λ block. block.waiting a ≡ true → without_earlier (late_lists block) b a < threshold_of s) later)
    (waits : WaitsWhileMissing s first later a b) where
  few_until_given : FewUntilGiven s (lists_of_lifetime first later) a b
  unfolding FewUntilGiven
  few_until_given zero lists at missing =
      subst (λ (x : List (List Tx)). without_earlier x b a < threshold_of s) (same_Some (fresh_lists first) lists at) few_fresh
  few_until_given (suc k) lists at missing =
      let found = image_at later k lists at in
      let still : first_edge s (lists_of_lifetime first (take k later)) a b ≡ Missing =
      ap (λ (blocks : List (List (List Tx))). first_edge s (fresh_lists first ∷ blocks) a b) (sym (take-map late_lists k later)) ∙ missing in
      subst (λ (x : List (List Tx)). without_earlier x b a < threshold_of s) (sym found.2)
      (block_at (λ (block : Placed). block.waiting a ≡ true → without_earlier (late_lists block) b a < threshold_of s) later k found.0
      few_late found.1 (waits k found.0 found.1 still))

  pub lifetime_gives_none_back : first_edge s (lists_of_lifetime first later) b a ≢ To
  lifetime_gives_none_back is = none_back s edges (lists_of_lifetime first later) a b few_until_given is

  pub lifetime_gives_forward : first_edge s (lists_of_lifetime first later) a b ≢ Missing → first_edge s (lists_of_lifetime first later) a b ≡ To
  lifetime_gives_forward = forward_if_given s edges (lists_of_lifetime first later) a b few_until_given

-- Where the edge of the pair, if there is one, leads from a to b.
module _ (s : Parameters) (first : Placed) (later : List Placed) (a b : Tx)
    (forward : first_edge s (lists_of_lifetime first later) a b ≢ Missing → first_edge s (lists_of_lifetime first later) a b ≡ To) where
  walk_forward : (g : Graph) (u v : ℕ) → IsCompleteProposal s first later g → slice_get g.vertices u ≡ Some a
      → slice_get g.vertices v ≡ Some b → Walks (HasEdge g) u v
  walk_forward g u v proposal one other =
      elim (cases_eq u v) [
        | inl same ↦ walk_same (HasEdge g) u v same
        | inr apart ↦
            let here : edge_at g u v ≡ first_edge s (lists_of_lifetime first later) a b = proposal.edges u v a b one other in
            let given : edge_at g u v ≢ Missing = proposal.complete u v (slice_get_within g.vertices u a one) (slice_get_within g.vertices v b other) apart in
            walk_edge (HasEdge g) u v (here ∙ forward (λ none. given (here ∙ none)))
      ]

  pub fair_at : (g : Graph) (batches : List (List Tx)) (u v i j : ℕ) → IsCompleteProposal s first later g → AreBatches g batches
      → slice_get g.vertices u ≡ Some a → slice_get g.vertices v ≡ Some b
      → StandsIn batches i a → StandsIn batches j b → i ≤ j
  fair_at g batches u v i j proposal batched one other here there =
      not_later g batches u v i j a b batched one other here there (walk_forward g u v proposal one other)

  pub fair_in_batches : (g : Graph) (batches : List (List Tx)) → IsCompleteProposal s first later g → AreBatches g batches
      → IsKept s (fresh_lists first) a → IsKept s (fresh_lists first) b
      → (i j : ℕ) × StandsIn batches i a × StandsIn batches j b × (i ≤ j)
  fair_in_batches g batches proposal batched one other =
      let u = holds_place g.vertices a ((proposal.kept.each a).1 one) in
      let v = holds_place g.vertices b ((proposal.kept.each b).1 other) in
      let here = batched.each u.0 a u.1 in
      let there = batched.each v.0 b v.1 in
      (here.0, there.0, here.2, there.2, fair_at g batches u.0 v.0 here.0 there.0 proposal batched u.1 v.1 here.2 there.2)
