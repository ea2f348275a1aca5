-- In a chain of blocks, a transaction waits where it belongs to a missing pair of a proposal.
use Rattle.std.proofs.Common.{◌≡◌, ◌≢◌, ℕ, suc, ◌+◌, ◌-◌, ◌<◌, List, ◌∷◌, get_or, map, take, drop, Bool, true, Some, refl, sym, ap, subst, ◌∙◌, arith}
use Rattle.std.specs.Prelude.{slice_get}
use Rattle.std.proofs.lemmas.Option.{same_Some, slice_get_within, slice_get-get_or}
use Rattle.seq_base.specs.declared.tx.Tx.{Tx}
use Rattle.seq_base.specs.declared.order.SealedOrder.{SealedOrder}
use Rattle.seq_base.specs.Setting.{Parameters, IsValid}
use Rattle.seq_base.proofs.Members.{holds_place, place_holds, one_place}
use Rattle.majority_graph.specs.declared.edge.Edge.TheVariants.{Missing}
use Rattle.majority_graph.specs.Graph.{Graph, edge_at}
use Rattle.majority_graph.specs.Later.{first_edge}
use Rattle.fair_laws.specs.Kept.{IsKept, AreKept}
use Rattle.fair_update.specs.Waiting.{Waits, IsMissingPair}
use Rattle.chain_state.specs.Lists.{BlockLists}
use Rattle.chain_state.specs.Proposals.{proposals, IsWaiting}
use Rattle.chain_state.specs.Standings.{is_waiting}
use Rattle.chain_laws.specs.Received.{Arrivals}
use Rattle.chain_laws.specs.Drawn.{Placed, fresh_lists}
use Rattle.chain_laws.specs.Lifetime.{lists_of_lifetime}
use Rattle.chain_laws.specs.Chain.{IsMissingBefore}
use Rattle.chain_laws.specs.Blocks.{Chain, fresh_in, lists_in, standing_of, placed_over, placed}
use Rattle.chain_laws.specs.Keeping.{AreBlocks}
use Rattle.chain_laws.proofs.Positions.{place_in_prefix, prefix_place, any_place, place_any}
use Rattle.chain_laws.proofs.PlacedBlocks.{late_of, placed_place, place_placed, lates_between, graph_with, proposal_place, place_proposal}
use Rattle.chain_laws.proofs.Prefixes.{fresh_prefix}
use Rattle.chain_laws.proofs.ChainPremises.{Answers, kept_list}

-- the graph of a block's proposal, where the chain ends after that block and `rest` more
abbrev cut_graph : Parameters → Chain → ℕ → ℕ → List SealedOrder → Graph
cut_graph s chain k rest orders = graph_with s (lists_in orders) (drop (suc k) (map lists_in (take (k + 1 + rest) chain)))

module _ (s : Parameters) (valid : IsValid s) (faulty : ℕ → Bool) (arrivals : Arrivals) (chain : Chain)
    (blocks : AreBlocks s faulty arrivals chain) (answers : Answers s)
    (k rest : ℕ) (orders : List SealedOrder) (stands : slice_get chain k ≡ Some orders) where
  abbrev g : Graph
  g = cut_graph s chain k rest orders

  abbrev lifetime : List (List (List Tx))
  lifetime = lists_of_lifetime (placed_over s (take k chain) orders) (take rest (drop (k + 1) (placed s chain)))

  kept : AreKept s (fresh_in orders) g.vertices
  kept = kept_list s valid faulty arrivals chain blocks answers k orders stands

  edge_is : (u v : ℕ) (a b : Tx) → slice_get g.vertices u ≡ Some a → slice_get g.vertices v ≡ Some b → edge_at g u v ≡ first_edge s lifetime a b
  edge_is u v a b one other =
      answers.edges g.vertices (fresh_in orders ∷ map late_of (drop (suc k) (map lists_in (take (k + 1 + rest) chain)))) u v a b one other
      ∙ ap (λ (later : List (List (List Tx))). first_edge s (fresh_in orders ∷ later) a b) (sym (lates_between s chain k rest))

  pub missing_forward : (t : Tx) → Waits g t → IsMissingBefore s (placed s chain) (k + 1 + rest) t
  missing_forward t waits =
      let u : ℕ = waits.0 in
      let v : ℕ = waits.1 in
      let pair : IsMissingPair g t u v = waits.2 in
      let other : Tx = get_or g.vertices v t in
      let there : slice_get g.vertices v ≡ Some other = slice_get-get_or g.vertices v t pair.to in
      record {
        proposer = k;
        rest = rest;
        before = refl;
        block = placed_over s (take k chain) orders;
        stands = placed_place s chain k orders stands;
        kept = (kept.each t).0 (place_holds g.vertices u t pair.from);
        other = other;
        differs = λ same. pair.apart (one_place g.vertices u v t kept.ascending pair.from (there ∙ ap Some (sym same)));
        other_kept = (kept.each other).0 (place_holds g.vertices v other there);
        missing = sym (edge_is u v t other pair.from there) ∙ pair.missing;
      }

  pub missing_backward : (t other : Tx) → IsKept s (fresh_in orders) t → IsKept s (fresh_in orders) other → t ≢ other
      → first_edge s lifetime t other ≡ Missing → Waits g t
  missing_backward t other one two differs missing =
      let u : (p : ℕ) × (slice_get g.vertices p ≡ Some t) = holds_place g.vertices t ((kept.each t).1 one) in
      let v : (p : ℕ) × (slice_get g.vertices p ≡ Some other) = holds_place g.vertices other ((kept.each other).1 two) in (
        u.0,
        v.0,
        record {
          from = u.1;
          to = slice_get_within g.vertices v.0 other v.1;
          apart = λ same. differs (same_Some t other (sym u.1 ∙ ap (λ (p : ℕ). slice_get g.vertices p) same ∙ v.1));
          missing = edge_is u.0 v.0 t other u.1 v.1 ∙ missing;
        },
      )

module _ (s : Parameters) (valid : IsValid s) (faulty : ℕ → Bool) (arrivals : Arrivals) (chain : Chain)
    (blocks : AreBlocks s faulty arrivals chain) (answers : Answers s) where
  -- a transaction of a missing pair of a proposal of the prefix
  missing_from : (number k : ℕ) (t : Tx) (g : Graph) (orders : List SealedOrder)
      → g ≡ graph_with s (lists_in orders) (drop (suc k) (map lists_in (take number chain)))
      → slice_get (take number chain) k ≡ Some orders → Waits g t → IsMissingBefore s (placed s chain) number t
  missing_from number k t g orders is own waits =
      let there : (k < number) × (slice_get chain k ≡ Some orders) = place_in_prefix chain number k orders own in
      let rest : ℕ = number - (k + 1) in
      let split : number ≡ k + 1 + rest = omega (arith, there.0) in
      let cut : g ≡ cut_graph s chain k rest orders = is ∙ ap (λ (n : ℕ). graph_with s (lists_in orders) (drop (suc k) (map lists_in (take n chain)))) split in
      subst (λ (n : ℕ). IsMissingBefore s (placed s chain) n t) (sym split)
      (missing_forward s valid faulty arrivals chain blocks answers k rest orders there.1 t (subst (λ (h : Graph). Waits h t) cut waits))

  -- a waiting transaction belongs to a missing pair
  pub waiting_forward : (number : ℕ) (t : Tx) → is_waiting (standing_of s (take number chain)) t ≡ true → IsMissingBefore s (placed s chain) number t
  waiting_forward number t is =
      let prefix : List BlockLists = map lists_in (take number chain) in
      let short = fresh_prefix s valid faulty arrivals chain blocks number in
      let found : IsWaiting s prefix t = (answers.waiting_read prefix t short).0 (sym (answers.stands.waiting prefix t short) ∙ is) in
      let at = any_place (λ (g : Graph). Waits g t) (proposals s prefix) found in
      let own = place_proposal s (take number chain) at.0 at.1 at.2 in
      missing_from number at.0 t at.1 own.0 own.2 own.1 at.3

  pub waiting_backward : (number : ℕ) (t : Tx) → IsMissingBefore s (placed s chain) number t → is_waiting (standing_of s (take number chain)) t ≡ true
  waiting_backward number t missing =
      let k : ℕ = missing.proposer in
      let rest : ℕ = missing.rest in
      let prefix : List BlockLists = map lists_in (take (k + 1 + rest) chain) in
      let short = fresh_prefix s valid faulty arrivals chain blocks (k + 1 + rest) in
      let at = place_placed s chain k missing.block missing.stands in
      let kept : IsKept s (fresh_in at.0) t = subst (λ (x : Placed). IsKept s (fresh_lists x) t) at.2 missing.kept in
      let other_kept : IsKept s (fresh_in at.0) missing.other = subst (λ (x : Placed). IsKept s (fresh_lists x) missing.other) at.2 missing.other_kept in
      let none : first_edge s (lists_of_lifetime (placed_over s (take k chain) at.0) (take rest (drop (k + 1) (placed s chain)))) t missing.other ≡ Missing =
      subst (λ (x : Placed). first_edge s (lists_of_lifetime x (take rest (drop (k + 1) (placed s chain)))) t missing.other ≡ Missing) at.2 missing.missing in
      let waits : Waits (cut_graph s chain k rest at.0) t =
      missing_backward s valid faulty arrivals chain blocks answers k rest at.0 at.1 t missing.other kept other_kept missing.differs none in
      let stands : slice_get (proposals s prefix) k ≡ Some (cut_graph s chain k rest at.0) =
      proposal_place s (take (k + 1 + rest) chain) k at.0 (prefix_place chain (k + 1 + rest) k at.0 (omega arith) at.1) in
      subst (λ (n : ℕ). is_waiting (standing_of s (take n chain)) t ≡ true) missing.before
      (answers.stands.waiting prefix t short
      ∙ (answers.waiting_read prefix t short).1 (place_any (λ (g : Graph). Waits g t) (proposals s prefix) k (cut_graph s chain k rest at.0) stands waits))
