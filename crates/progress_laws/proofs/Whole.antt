-- The block of view 1 proposes all due transactions, and is complete.
use Rattle.std.proofs.Common.{◌≡◌, ◌≢◌, ℕ, zero, suc, ◌<◌, ◌≤◌, List, [], ◌∷◌, ◌++◌, length, get_or, Bool, true, false, Some, refl, sym, ap, ◌∙◌, inl, inr, arith}
use Rattle.std.specs.Prelude.{All, slice_get, filter, not, count_by}
use Rattle.std.specs.List.Sorted.{IsStrictlySortedBy}
use Rattle.std.specs.List.{AllByRecursion as Each, list_any}
use Rattle.std.proofs.lemmas.Bool.{cases_Bool}
use Rattle.std.proofs.lemmas.List.{append-nil}
use Rattle.std.proofs.lemmas.List.Elements.{All-nil, All-cons, All-head}
use Rattle.std.proofs.lemmas.List.Folds.{list_any_at}
use Rattle.std.proofs.lemmas.List.Sums.{length-filter}
use Rattle.std.proofs.lemmas.Option.{slice_get_within, get_or_from_slice_get}
use Rattle.seq_base.specs.declared.tx.Tx.{Tx}
use Rattle.seq_base.specs.declared.block.Block.{Block}
use Rattle.seq_base.specs.Blocks.{first_digest}
use Rattle.seq_base.specs.Lists.{AreFresh, holds, listed}
use Rattle.seq_base.specs.Setting.{Parameters, IsValid, quorum_of, solid_of, threshold_of}
use Rattle.seq_base.specs.Tx.{tx_cmp}
use Rattle.seq_base.proofs.Members.{holds_place, place_holds}
use Rattle.majority_graph.specs.declared.edge.Edge.{Edge}
use Rattle.majority_graph.specs.declared.edge.Edge.TheVariants.{To, From, Missing}
use Rattle.majority_graph.specs.Edges.{edge_between}
use Rattle.majority_graph.specs.Graph.{Graph, IsGraph, IsComplete}
use Rattle.majority_graph.specs.Later.{HasFirstEdges, or_edge}
use Rattle.batch_laws.specs.Batches.{AreBatches}
use Rattle.batch_laws.specs.Reached.{batches_of}
use Rattle.fair_laws.specs.Kept.{AreKept, kept_by}
use Rattle.chain_state.specs.Lists.{BlockLists, lists_of}
use Rattle.chain_state.specs.Proposals.{AreFinalBatches, proposals, graph_over, final_of}
use Rattle.chain_state.specs.Standings.{finals, applied, standing_for}
use Rattle.block_store.specs.Chains.{chain_of, following}
use Rattle.chain_store.specs.Chains.{chain_state_of}
use Rattle.run_record.specs.Done.{is_finalised}
use Rattle.progress_laws.proofs.Chains.{IsChain, digest_at, stored_at, parent_is, no_parent}
use Rattle.round_rules.proofs.Places.{found_at}

-- the laws of lower crates that this rests on
pub record Laws : Type 0 where
  pub thresholds : (s : Parameters) → IsValid s → threshold_of s ≤ solid_of s
  pub kept : (s : Parameters) (lists : List (List Tx)) → AreFresh lists → AreKept s lists (kept_by s lists)
  pub listed_once : (s : Parameters) (lists : List (List Tx)) (t : Tx) → AreFresh lists → holds t (kept_by s lists) ≡ true → 1 ≤ listed lists t
  pub edges : (s : Parameters) (lists : List (List Tx)) (u v : Tx) → IsValid s → solid_of s ≤ listed lists u → u ≢ v → edge_between s lists u v ≢ Missing
  pub batches : (g : Graph) → IsGraph g → IsComplete g → AreBatches g (batches_of g)
  pub graphs : (s : Parameters) (chain : List BlockLists) → All (λ b. AreFresh b.fresh) chain → All IsGraph (proposals s chain)
  pub first_edges : (s : Parameters) (vertices : List Tx) (blocks : List (List (List Tx))) → HasFirstEdges s blocks (graph_over s vertices blocks)
  pub step : (s : Parameters) (chain : List BlockLists) (b : BlockLists) → All (λ c. AreFresh c.fresh) chain
      → standing_for s (chain ++ b ∷ []) ≡ applied (standing_for s chain) b
  pub finals_are : (s : Parameters) (chain : List BlockLists) → finals (standing_for s chain) ≡ final_of s chain
  pub final : (s : Parameters) (chain : List BlockLists) → All (λ b. AreFresh b.fresh) chain
      → (many : ℕ) × AreFinalBatches (proposals s chain) (final_of s chain) many
  pub apart : (vertices : List Tx) (u v : ℕ) (d : Tx) → IsStrictlySortedBy tx_cmp vertices → u < length vertices → v < length vertices
      → u ≢ v → get_or vertices u d ≡ get_or vertices v d → ⊥

pub filter_all : {X : Type 0} (p : X → Bool) (xs : List X) → Each (λ x. p x ≡ true) xs → filter p xs ≡ xs
filter_all p [] each = refl
filter_all p (x ∷ xs) each = rw each.0 (ap (λ ys. x ∷ ys) (filter_all p xs each.1))

count_all : {X : Type 0} (p : X → Bool) (xs : List X) → Each (λ x. p x ≡ true) xs → count_by p xs ≡ length xs
count_all p xs each = sym (length-filter p xs) ∙ ap length (filter_all p xs each)

filter_none : {X : Type 0} (p : X → Bool) (xs : List X) → Each (λ x. p x ≡ false) xs → filter p xs ≡ []
filter_none p [] each = refl
filter_none p (x ∷ xs) each = rw each.0 (filter_none p xs each.1)

count_none : {X : Type 0} (p : X → Bool) (xs : List X) → Each (λ x. p x ≡ false) xs → count_by p xs ≡ 0
count_none p xs each = sym (length-filter p xs) ∙ ap length (filter_none p xs each)

-- ---- the chain of the first block

module _ (s : Parameters) (bs : List Block) (chain : IsChain bs) (b : Block) (first : slice_get bs 0 ≡ Some b) where
  none_after : (m : ℕ) → following m bs first_digest ≡ []
  none_after zero = refl
  none_after (suc m) = rw (no_parent bs chain)

  one_after : (m : ℕ) → length bs ≡ suc m → chain_of bs (digest_at bs 1) ≡ digest_at bs 1 ∷ []
  one_after m is = rw is (rw (parent_is bs chain 0 (omega (arith, is))) (rw (none_after m)))

  pub chain_is : chain_state_of (record { setting = s; blocks = bs }) (digest_at bs 1) ≡ applied (standing_for s []) (lists_of b)
  unfolding chain_state_of
  chain_is =
      let inside : 0 < length bs = slice_get_within bs 0 b first in
      let one : chain_of bs (digest_at bs 1) ≡ digest_at bs 1 ∷ [] = by (length bs) refl inside in
      rw (one, first, stored_at bs chain 0 b first)
    where
      by : (m : ℕ) → length bs ≡ m → 0 < m → chain_of bs (digest_at bs 1) ≡ digest_at bs 1 ∷ []
      by zero is none = absurd (omega (arith, none))
      by (suc m) is some = one_after m is

-- ---- its fresh lists

-- the lists of this many replicas, which hold the same
module _ (laws : Laws) (s : Parameters) (valid : IsValid s) (all : List Tx) (fresh : List (List Tx)) (count : length fresh ≡ quorum_of s)
    (short : Each (λ list. length list ≤ 128) fresh)
    (same : Each (λ list. (t : Tx) → holds t list ≡ holds t all) fresh) (few : s.n ≤ 16) where
  each_short : (lists : List (List Tx)) → Each (λ list. length list ≤ 128) lists → All (λ list. length list ≤ 128) lists
  each_short [] each = All-nil (λ list. length list ≤ 128)
  each_short (x ∷ xs) each = All-cons (λ list. length list ≤ 128) x xs each.0 (each_short xs each.1)

  are_fresh : AreFresh fresh
  are_fresh = record { few = omega (arith, count, few); short = each_short fresh short }

  all_hold : (t : Tx) (x : Bool) → holds t all ≡ x → (lists : List (List Tx)) → Each (λ list. (t : Tx) → holds t list ≡ holds t all) lists
      → Each (λ list. holds t list ≡ x) lists
  all_hold t x is [] each = tt
  all_hold t x is (l ∷ lists) each = (each.0 t ∙ is, all_hold t x is lists each.1)

  in_each : (t : Tx) → holds t all ≡ true → listed fresh t ≡ quorum_of s
  in_each t is = count_all (holds t) fresh (all_hold t true is fresh same) ∙ count

  is_solid : (t : Tx) → holds t all ≡ true → solid_of s ≤ listed fresh t
  is_solid t is = (let l : listed fresh t ≡ quorum_of s = in_each t is in omega (arith, l))

  abbrev V : List Tx
  V = kept_by s fresh

  -- what all lists hold is kept
  held_kept : (t : Tx) → holds t all ≡ true → holds t V ≡ true
  held_kept t is = ((laws.kept s fresh are_fresh).each t).1 (record {
    candidate =
        (let low : threshold_of s ≤ solid_of s = laws.thresholds s valid in let solid : solid_of s ≤ listed fresh t = is_solid t is in
        omega (arith, low, solid));
    leads = (t, is_solid t is, ([], refl));
  })

  -- and nothing else
  kept_held : (t : Tx) → holds t V ≡ true → holds t all ≡ true
  kept_held t kept = elim (cases_Bool (holds t all)) [
    | inl is ↦ is
    | inr not ↦ absurd (let some : 1 ≤ listed fresh t = laws.listed_once s fresh t are_fresh kept in
        let none : listed fresh t ≡ 0 = count_none (holds t) fresh (all_hold t false not fresh same) in omega (arith, some, none))
  ]

  abbrev lists_only : List (List Tx) → BlockLists
  lists_only late = record { fresh = fresh; late = late }

  abbrev g : Graph
  g = graph_over s V (fresh ∷ [])

  fresh_chain : (late : List (List Tx)) → All (λ b. AreFresh b.fresh) (lists_only late ∷ [])
  fresh_chain late = All-cons (λ (b : BlockLists). AreFresh b.fresh) (lists_only late) [] are_fresh (All-nil (λ (b : BlockLists). AreFresh b.fresh))

  is_graph : IsGraph g
  is_graph = All-head IsGraph g [] (laws.graphs s (lists_only [] ∷ []) (fresh_chain []))

  no_edge_missing : (x : Edge) → x ≢ Missing → or_edge x Missing ≢ Missing
  no_edge_missing To some = some
  no_edge_missing From some = some
  no_edge_missing Missing some = some

  complete : IsComplete g
  complete u v inside_u inside_v other missing =
      let (a, at_u) = found_at V u inside_u in
      let (b, at_v) = found_at V v inside_v in
      let different : a ≢ b =
      λ one. laws.apart V u v a is_graph.ascending inside_u inside_v other
      (get_or_from_slice_get V u a a at_u ∙ one ∙ sym (get_or_from_slice_get V v b a at_v)) in
      let solid : solid_of s ≤ listed fresh a = is_solid a (kept_held a (place_holds V u a at_u)) in
      no_edge_missing (edge_between s fresh a b) (laws.edges s fresh a b valid solid different)
      (sym (laws.first_edges s V (fresh ∷ []) u v a b at_u at_v) ∙ missing)

  batches_hold : (t : Tx) → holds t all ≡ true → list_any (holds t) (batches_of g) ≡ true
  batches_hold t is =
      let (k, at_k) = holds_place V t (held_kept t is) in
      let there = (laws.batches g is_graph complete).each k t at_k in
      list_any_at (holds t) (batches_of g) there.0 [] there.1 there.2

  finals_of_one : (late : List (List Tx)) → finals (applied (standing_for s []) (lists_only late)) ≡ batches_of g
  finals_of_one late =
      ap finals (sym (laws.step s [] (lists_only late) (All-nil (λ (b : BlockLists). AreFresh b.fresh)))) ∙ laws.finals_are s (lists_only late ∷ [])
      ∙ (let (many, is) = laws.final s (lists_only late ∷ []) (fresh_chain late) in by many is)
    where
      by : (many : ℕ) → AreFinalBatches (proposals s (lists_only late ∷ [])) (final_of s (lists_only late ∷ [])) many
          → final_of s (lists_only late ∷ []) ≡ batches_of g
      by zero is = absurd (is.next (omega arith) g complete)
      by (suc zero) is = is.theirs ∙ append-nil (batches_of g)
      by (suc (suc m)) is = absurd (let inside : suc (suc m) ≤ 1 = is.inside in omega (arith, inside))

  -- The final batches contain what all lists hold.
  pub finalised : (late : List (List Tx)) (t : Tx) → holds t all ≡ true → is_finalised (finals (applied (standing_for s []) (lists_only late))) t ≡ true
  finalised late t is = ap (λ (batches : List (List Tx)). is_finalised batches t) (finals_of_one late) ∙ batches_hold t is
