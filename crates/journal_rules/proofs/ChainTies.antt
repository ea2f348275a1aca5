-- The chain state of a stored block belongs to the chain that the journal shows.
use Rattle.std.proofs.Common.{◌≡◌, ℕ, zero, suc, ◌≤◌, List, [], ◌∷◌, ◌++◌, length, map, Some, refl, sym, ap, subst, ◌∙◌, arith}
use Rattle.std.specs.Prelude.{All}
use Rattle.std.proofs.lemmas.List.{map-append}
use Rattle.std.proofs.lemmas.List.Elements.{All-nil, All-cons, All-append}
use Rattle.seq_base.specs.declared.digest.Digest.{Digest}
use Rattle.seq_base.specs.declared.block.Block.{Block}
use Rattle.seq_base.specs.Blocks.{first_digest}
use Rattle.seq_base.specs.Lists.{AreFresh}
use Rattle.seq_base.specs.Setting.{Parameters}
use Rattle.block_store.specs.Store.{block_digest, block_at}
use Rattle.block_store.specs.Chains.{following as after_digests}
use Rattle.chain_state.specs.Lists.{BlockLists, lists_of}
use Rattle.chain_state.specs.Standings.{Standings, standing_for, applied}
use Rattle.agreement_laws.specs.Journals.{Named, first_block}
use Rattle.agreement_laws.specs.JournalPrefixes.{parent_in, following, chain}
use Rattle.agreement_laws.proofs.Digests.{false_other}
use Rattle.chain_store.specs.Chains.{chain_state_of}
use Rattle.chain_store.proofs.ChainStates.{one_on}
use Rattle.journal_rules.specs.Shown.{named}
use Rattle.journal_rules.specs.Chained.{lists_in}
use Rattle.journal_rules.specs.Stores.{at, HasParent, IsTied, StoreKept}
use Rattle.journal_rules.proofs.Stores.{at_cases, none_at_first}

-- one block more on a chain, as the lower crate states it
abbrev pub StandsForOneMore : Type 0
StandsForOneMore = (s : Parameters) (chain : List BlockLists) (b : BlockLists) → All (λ c. AreFresh c.fresh) chain
    → standing_for s (chain ++ b ∷ []) ≡ applied (standing_for s chain) b

module _ (one_more : StandsForOneMore) (s : Parameters) (store : List Block) (blocks : List Named) (tied : IsTied store blocks) (kept : StoreKept store) where
  -- the parent of a block that is found, and the rest of the chain after it
  after_first : (k : ℕ) → following k blocks first_block ≡ []
  after_first zero = refl
  after_first (suc k) = refl

  parent_is : (b : Block) (p : HasParent store b) → parent_in blocks (named b) ≡ Some p.parent
  parent_is b p = rw (false_other (block_digest b) first_digest p.other) (tied.same b.cert.block ∙ p.found)

  after_more : (k : ℕ) (b : Block) (p : HasParent store b) → following (suc k) blocks (named b) ≡ following k blocks p.parent ++ named b ∷ []
  after_more k b p = rw (parent_is b p) refl

  -- steps beyond the block's view change nothing
  enough : (bound k j : ℕ) (d : Digest) (n : Named) → at store d ≡ Some n → k ≤ bound → j ≤ bound → n.view ≤ k → n.view ≤ j
      → following k blocks n ≡ following j blocks n
  enough zero k j d n found k_in j_in over under = ap (λ (i : ℕ). following i blocks n) (let same : k ≡ j = omega (arith, k_in, j_in) in same)
  enough (suc bound) k j d n found k_in j_in over under = at_cases store d n (following k blocks n ≡ following j blocks n) found
      (λ is same. rw (← same) (after_first k ∙ sym (after_first j)))
      (λ not b at_b same.
      let view : b.view ≡ n.view = ap (λ (m : Named). m.view) same in
      rw (← same) (step k j b (tied.parents d b at_b) k_in j_in (omega (arith, view, over)) (omega (arith, view, under))
      (λ x y e m found x_in y_in low high. enough bound x y e m found x_in y_in low high)))
    where
      step : (k j : ℕ) (b : Block) (p : HasParent store b) → k ≤ suc bound → j ≤ suc bound → b.view ≤ k → b.view ≤ j
          → ((x y : ℕ) (e : Digest) (m : Named) → at store e ≡ Some m → x ≤ bound → y ≤ bound → m.view ≤ x → m.view ≤ y
          → following x blocks m ≡ following y blocks m)
          → following k blocks (named b) ≡ following j blocks (named b)
      step zero j b p k_in j_in over under on = absurd (omega (arith, over, p.below))
      step (suc k) zero b p k_in j_in over under on = absurd (omega (arith, under, p.below))
      step (suc k) (suc j) b p k_in j_in over under on =
          after_more k b p
          ∙ ap (λ (ns : List Named). ns ++ named b ∷ [])
          (on k j b.cert.block p.parent p.found (omega (arith, k_in)) (omega (arith, j_in)) (omega (arith, over, p.below, p.view))
          (omega (arith, under, p.below, p.view)))
          ∙ sym (after_more j b p)

  chain_more : (d : Digest) (b : Block) → block_at store d ≡ Some b → at store d ≡ Some (named b) → (p : HasParent store b)
      → chain blocks (named b) ≡ chain blocks p.parent ++ named b ∷ []
  chain_more d b at_b found p =
      enough (suc b.view) b.view (suc b.view) d (named b) found (omega arith) (omega arith) (omega arith) (omega arith)
      ∙ after_more b.view b p
      ∙ ap (λ (ns : List Named). ns ++ named b ∷ [])
      (enough (suc b.view) b.view p.parent.view b.cert.block p.parent p.found (omega arith) (omega (arith, p.below, p.view))
      (omega (arith, p.below, p.view)) (omega arith))

  none_after : (k : ℕ) → after_digests k store first_digest ≡ []
  none_after zero = refl
  none_after (suc k) = rw (none_at_first store blocks tied) refl

  state_at_first : chain_state_of (record { setting = s; blocks = store }) first_digest ≡ standing_for s []
  unfolding chain_state_of
  state_at_first = rw (none_after (length store)) refl

  abbrev Stands : Digest → Named → Type 0
  Stands d n = (chain_state_of (record { setting = s; blocks = store }) d ≡ standing_for s (map lists_in (chain blocks n)))
      × All (λ c. AreFresh c.fresh) (map lists_in (chain blocks n))

  -- after the parent's chain
  stands_more : (d : Digest) (b : Block) (p : HasParent store b) → block_at store d ≡ Some b → at store d ≡ Some (named b)
      → Stands b.cert.block p.parent → Stands d (named b)
  stands_more d b p at_b own before =
      let split : map lists_in (chain blocks (named b)) ≡ map lists_in (chain blocks p.parent) ++ lists_of b ∷ [] =
      ap (map lists_in) (chain_more d b at_b own p) ∙ map-append lists_in (chain blocks p.parent) (named b ∷ []) in (
        one_on s store d b kept.led at_b
            ∙ ap (λ (c : Standings). applied c (lists_of b)) before.0
            ∙ sym (one_more s (map lists_in (chain blocks p.parent)) (lists_of b) before.1)
            ∙ ap (standing_for s) (sym split),
        subst (All (λ c. AreFresh c.fresh)) (sym split)
            (All-append (λ c. AreFresh c.fresh) (map lists_in (chain blocks p.parent)) (lists_of b ∷ []) before.1
            (All-cons (λ c. AreFresh c.fresh) (lists_of b) [] (kept.fresh d b at_b) (All-nil (λ c. AreFresh c.fresh)))),
      )

  stands : (bound : ℕ) (d : Digest) (n : Named) → at store d ≡ Some n → n.view ≤ bound → Stands d n
  stands zero d n found within = at_cases store d n (Stands d n) found
      (λ is same. rw (← same, is) (state_at_first, All-nil (λ c. AreFresh c.fresh)))
      (λ not b at_b same.
      let p : HasParent store b = tied.parents d b at_b in
      let view : b.view ≡ n.view = ap (λ (m : Named). m.view) same in
      absurd (omega (arith, view, within, p.below)))
  stands (suc bound) d n found within = at_cases store d n (Stands d n) found
      (λ is same. rw (← same, is) (state_at_first, All-nil (λ c. AreFresh c.fresh)))
      (λ not b at_b same.
      let p : HasParent store b = tied.parents d b at_b in
      let view : b.view ≡ n.view = ap (λ (m : Named). m.view) same in
      let own : at store d ≡ Some (named b) = found ∙ ap (λ (m : Named). Some m) (sym same) in
      rw (← same) (stands_more d b p at_b own (stands bound b.cert.block p.parent p.found (omega (arith, view, within, p.below, p.view)))))

  -- the chain state of a stored block
  pub state_stands : (d : Digest) (n : Named) → at store d ≡ Some n
      → chain_state_of (record { setting = s; blocks = store }) d ≡ standing_for s (map lists_in (chain blocks n))
  state_stands d n found = (stands n.view d n found (omega arith)).0
