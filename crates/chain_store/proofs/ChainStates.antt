-- Chain states along a growing store.
use Rattle.std.proofs.Common.{◌≡◌, ℕ, zero, suc, ◌≤◌, List, [], ◌∷◌, ◌++◌, length, Bool, true, false, cond, Option, Some, None, is_some, find, refl, sym, ap, ◌∙◌, inl, inr, arith, length-append, add-one}
use Rattle.std.specs.Option.{option_map, option_map_or, option_or}
use Rattle.std.specs.List.{fold}
use Rattle.std.proofs.lemmas.Bool.{cases_Bool, or_cases, or_left, or_right, both_ways, false_from_ne_true}
use Rattle.std.proofs.lemmas.List.Elements.{All-weaker, All-head, All-tail}
use Rattle.std.proofs.lemmas.List.Folds.{find-append}
use Rattle.std.proofs.lemmas.List.Sums.{fold-append}
use Rattle.seq_base.specs.declared.digest.Digest.{Digest}
use Rattle.seq_base.specs.declared.block.Block.{Block}
use Rattle.seq_base.specs.Blocks.{first_digest, digest_eq, digest_eq_decides}
use Rattle.seq_base.specs.Setting.{Parameters}
use Rattle.seq_base.proofs.Options.{there, or_none}
use Rattle.block_store.specs.Store.{block_digest, has_digest, block_at, is_stored, is_other, clashes, with_block}
use Rattle.block_store.specs.Chains.{following, chain_of}
use Rattle.chain_state.specs.Lists.{lists_of}
use Rattle.chain_state.specs.Standings.{Standings, applied, standing_for}
use Rattle.chain_store.specs.Chains.{Stored, Kept, IsOf, AreOf, LeadBack, block_on, chain_state_of}

-- a stored block: the first one, or one that is found
stored_cases : (store : List Block) (d : Digest) (P : Type 0) → is_stored store d ≡ true → (d ≡ first_digest → P)
    → ((x : Block) → block_at store d ≡ Some x → P) → P
stored_cases store d P stored first found = elim (or_cases (digest_eq d first_digest) (is_some (block_at store d)) stored) [
  | inl is ↦ first ((digest_eq_decides d first_digest).0 is)
  | inr is ↦ let x = there (block_at store d) is in found x.0 x.1
]

-- one more block, which is not the first one, after its parent
module _ (store : List Block) (b : Block) (led : LeadBack store) (other : digest_eq (block_digest b) first_digest ≡ false)
    (parent : is_stored store b.cert.block ≡ true) where
  abbrev more : List Block
  more = store ++ b ∷ []

  found_stays : (d : Digest) (x : Block) → block_at store d ≡ Some x → block_at more d ≡ Some x
  found_stays d x found = find-append (has_digest d) store (b ∷ []) ∙ ap (λ (o : Option Block). option_or o (block_at (b ∷ []) d)) found

  elsewhere : (d : Digest) → digest_eq d (block_digest b) ≡ false → block_at more d ≡ block_at store d
  elsewhere d not = find-append (has_digest d) store (b ∷ []) ∙ ap (λ (t : Bool). option_or (block_at store d) (cond t (Some b) None)) not
      ∙ or_none (block_at store d)

  not_first : digest_eq first_digest (block_digest b) ≡ false
  not_first = false_from_ne_true (digest_eq first_digest (block_digest b)) (λ same.
      both_ways (digest_eq (block_digest b) first_digest) other
      ((digest_eq_decides (block_digest b) first_digest).1 (sym ((digest_eq_decides first_digest (block_digest b)).0 same))))

  -- what is stored does not change
  same_at : (d : Digest) → is_stored store d ≡ true → block_at more d ≡ block_at store d
  same_at d stored = stored_cases store d (block_at more d ≡ block_at store d) stored
      (λ is. rw is (elsewhere first_digest not_first))
      (λ x found. found_stays d x found ∙ sym found)

  stored_stays : (d : Digest) → is_stored store d ≡ true → is_stored more d ≡ true
  stored_stays d stored = stored_cases store d (is_stored more d ≡ true) stored
      (λ is. or_left (digest_eq d first_digest) _ ((digest_eq_decides d first_digest).1 is))
      (λ x found. or_right (digest_eq d first_digest) _ (ap is_some (found_stays d x found)))

  -- The parent of each was stored before.
  parent_before : (d : Digest) (x : Block) → block_at more d ≡ Some x → is_stored store x.cert.block ≡ true
  parent_before d x found = by (digest_eq d (block_digest b)) refl (block_at store d) refl
    where
      by : (t : Bool) → digest_eq d (block_digest b) ≡ t → (o : Option Block) → block_at store d ≡ o → is_stored store x.cert.block ≡ true
      by t is (Some y) before =
          let same : Some y ≡ Some x = sym (found_stays d y before) ∙ found in
          let is_x : y ≡ x = cc in
          rw (← is_x) (led.parents d y before)
      by true is None before =
          let last : Some b ≡ Some x = sym (find-append (has_digest d) store (b ∷ []) ∙ rw (before, is) refl) ∙ found in
          let is_x : b ≡ x = cc in
          rw (← is_x) parent
      by false is None before = let none : None ≡ Some x = sym (elsewhere d is ∙ before) ∙ found in absurd (cc)

  after_same : (steps : ℕ) (d : Digest) → is_stored store d ≡ true → following steps more d ≡ following steps store d
  after_same zero d stored = refl
  after_same (suc steps) d stored = rw (same_at d stored) (by (block_at store d) refl (λ p before. after_same steps p before))
    where
      by : (o : Option Block) → block_at store d ≡ o → ((p : Digest) → is_stored store p ≡ true → following steps more p ≡ following steps store p)
          → option_map_or (λ p. following steps more p ++ d ∷ []) (option_map (λ x. x.cert.block) o) []
          ≡ option_map_or (λ p. following steps store p ++ d ∷ []) (option_map (λ x. x.cert.block) o) []
      by None found same = refl
      by (Some x) found same = ap (λ (ds : List Digest). ds ++ d ∷ []) (same x.cert.block (led.parents d x found))

  -- steps beyond the count of stored blocks change nothing
  enough : (j : ℕ) (d : Digest) → length store ≤ j → following (suc j) more d ≡ following (suc (length store)) more d
  enough j d within = by (block_at more d) refl
    where
      by : (o : Option Block) → block_at more d ≡ o
          → option_map_or (λ p. following j more p ++ d ∷ []) (option_map (λ x. x.cert.block) o) []
          ≡ option_map_or (λ p. following (length store) more p ++ d ∷ []) (option_map (λ x. x.cert.block) o) []
      by None found = refl
      by (Some x) found =
          let before = parent_before d x found in
          ap (λ (ds : List Digest). ds ++ d ∷ [])
          (after_same j x.cert.block before ∙ led.ends j x.cert.block within ∙ sym (after_same (length store) x.cert.block before))

  one_more : length more ≡ suc (length store)
  one_more = length-append store (b ∷ []) ∙ add-one (length store)

  ends_more : (steps : ℕ) (d : Digest) → length more ≤ steps → following steps more d ≡ chain_of more d
  ends_more zero d within = absurd (omega (arith, one_more))
  ends_more (suc j) d within = enough j d (omega (arith, one_more)) ∙ ap (λ (k : ℕ). following k more d) (sym one_more)

  led_more : LeadBack more
  led_more = record {
    first = elsewhere first_digest not_first ∙ led.first;
    parents = λ d x found. stored_stays x.cert.block (parent_before d x found);
    ends = ends_more;
  }

  -- the chain of a stored block does not change, nor its state
  chain_same : (d : Digest) → is_stored store d ≡ true → chain_of more d ≡ chain_of store d
  chain_same d stored = ap (λ (k : ℕ). following k more d) one_more ∙ after_same (suc (length store)) d stored ∙ led.ends (suc (length store)) d (omega arith)

  fold_same : (steps : ℕ) (c : Standings) (d : Digest) → is_stored store d ≡ true
      → fold (block_on more) c (following steps store d) ≡ fold (block_on store) c (following steps store d)
  fold_same zero c d stored = refl
  fold_same (suc steps) c d stored = by (block_at store d) refl (λ p before. fold_same steps c p before)
    where
      by : (o : Option Block) → block_at store d ≡ o
          → ((p : Digest) → is_stored store p ≡ true → fold (block_on more) c (following steps store p) ≡ fold (block_on store) c (following steps store p))
          → fold (block_on more) c (option_map_or (λ p. following steps store p ++ d ∷ []) (option_map (λ x. x.cert.block) o) [])
          ≡ fold (block_on store) c (option_map_or (λ p. following steps store p ++ d ∷ []) (option_map (λ x. x.cert.block) o) [])
      by None found same = refl
      by (Some x) found same =
          let prefix : List Digest = following steps store x.cert.block in
          fold-append (block_on more) c prefix (d ∷ [])
          ∙ ap (λ (s : Standings). block_on more s d) (same x.cert.block (led.parents d x found))
          ∙ ap (λ (o : Option Block). option_map_or (λ y. applied (fold (block_on store) c prefix) (lists_of y)) o (fold (block_on store) c prefix))
          (same_at d stored)
          ∙ sym (fold-append (block_on store) c prefix (d ∷ []))

  state_same : (s : Parameters) (d : Digest) → is_stored store d ≡ true
      → chain_state_of (record { setting = s; blocks = more }) d ≡ chain_state_of (record { setting = s; blocks = store }) d
  unfolding chain_state_of
  state_same s d stored =
      ap (λ (ds : List Digest). fold (block_on more) (standing_for s []) ds) (chain_same d stored) ∙ fold_same (length store) (standing_for s []) d stored

-- the state of a block's chain is that of its parent's with the block applied
pub one_on : (s : Parameters) (store : List Block) (d : Digest) (b : Block) → LeadBack store → block_at store d ≡ Some b
    → chain_state_of (record { setting = s; blocks = store }) d ≡ applied (chain_state_of (record { setting = s; blocks = store }) b.cert.block) (lists_of b)
unfolding chain_state_of
one_on s store d b led found =
    let chain : chain_of store d ≡ chain_of store b.cert.block ++ d ∷ [] = sym (led.ends (suc (length store)) d (omega arith)) ∙ rw found refl in
    let prefix : Standings = fold (block_on store) (standing_for s []) (chain_of store b.cert.block) in
    ap (fold (block_on store) (standing_for s [])) chain ∙ fold-append (block_on store) (standing_for s []) (chain_of store b.cert.block) (d ∷ [])
    ∙ ap (λ (o : Option Block). option_map_or (λ y. applied prefix (lists_of y)) o prefix) found

pub clashes_parts : (first other : Bool) → cond first true other ≡ false → (first ≡ false) × (other ≡ false)
clashes_parts true other none = absurd (cc)
clashes_parts false other none = (refl, none)

-- a block that is put into a store, and what holds then
module _ (store : List Block) (b : Block) (led : LeadBack store) (alone : clashes store (block_digest b) b ≡ false)
    (parent : is_stored store b.cert.block ≡ true) where
  other_than_first : digest_eq (block_digest b) first_digest ≡ false
  other_than_first = (clashes_parts (digest_eq (block_digest b) first_digest) (is_other (block_at store (block_digest b)) b) alone).0

  pub led_with : LeadBack (with_block b store)
  led_with = elim (cases_Bool (is_some (block_at store (block_digest b)))) [
    | inl known ↦ rw known led
    | inr new ↦ rw new (led_more store b led other_than_first parent)
  ]

  pub stored_with : (d : Digest) → is_stored store d ≡ true → is_stored (with_block b store) d ≡ true
  stored_with d stored = elim (cases_Bool (is_some (block_at store (block_digest b)))) [
    | inl known ↦ rw known stored
    | inr new ↦ rw new (stored_stays store b led other_than_first parent d stored)
  ]

  pub state_with : (s : Parameters) (d : Digest) → is_stored store d ≡ true
      → chain_state_of (record { setting = s; blocks = with_block b store }) d ≡ chain_state_of (record { setting = s; blocks = store }) d
  state_with s d stored = elim (cases_Bool (is_some (block_at store (block_digest b)))) [
    | inl known ↦ rw known refl
    | inr new ↦ rw new (state_same store b led other_than_first parent s d stored)
  ]

  pub of_with : (s : Parameters) (kept : List Kept) → AreOf (record { setting = s; blocks = store }) kept
      → AreOf (record { setting = s; blocks = with_block b store }) kept
  of_with s kept are =
      All-weaker (IsOf (record { setting = s; blocks = store })) (IsOf (record { setting = s; blocks = with_block b store }))
      (λ k is. record { stored = stored_with k.block is.stored; same = is.same ∙ sym (state_with s k.block is.stored) }) kept are

-- the cache entry of a block
pub kept_is : (s : Stored) (kept : List Kept) (d : Digest) (k : Kept) → AreOf s kept
    → find (λ (e : Kept). digest_eq e.block d) kept ≡ Some k → k.chain ≡ chain_state_of s d
kept_is s [] d k are found = absurd (cc)
kept_is s (e ∷ es) d k are found = by (digest_eq e.block d) refl (λ later. kept_is s es d k (All-tail (IsOf s) e es are) later)
  where
    rest : Option Kept
    rest = find (λ (e : Kept). digest_eq e.block d) es

    by : (t : Bool) → digest_eq e.block d ≡ t → (rest ≡ Some k → k.chain ≡ chain_state_of s d) → k.chain ≡ chain_state_of s d
    by true is further =
        let same : Some e ≡ Some k = ap (λ (t : Bool). cond t (Some e) rest) (sym is) ∙ found in
        let k_is : e ≡ k = cc in
        let of : IsOf s e = All-head (IsOf s) e es are in
        rw (← k_is) (of.same ∙ ap (chain_state_of s) ((digest_eq_decides e.block d).0 is))
    by false is further = further (ap (λ (t : Bool). cond t (Some e) rest) (sym is) ∙ found)

pub alone_in : (s : Parameters) (store : List Block) (now : Stored) (d : Digest) (b : Block) → record { setting = s; blocks = store } ≡ now
    → d ≡ block_digest b → clashes now.blocks d b ≡ false
    → clashes store (block_digest b) b ≡ false
alone_in s store now d b seen own alone = rw (ap (λ (x : Stored). x.blocks) seen, ← own) alone

-- The store adds a block where the caller sees these blocks: the cache entries stay right, and the chain state of the
-- block is its parent's with the block applied.
module _ (s : Parameters) (store new : List Block) (now : Stored) (d : Digest) (b : Block)
    (seen : record { setting = s; blocks = store } ≡ now) (led : LeadBack store) (own : d ≡ block_digest b)
    (alone : clashes now.blocks d b ≡ false) (parent : is_stored now.blocks b.cert.block ≡ true) (put : new ≡ with_block b store) where
  same_blocks : store ≡ now.blocks
  same_blocks = ap (λ (x : Stored). x.blocks) seen

  alone_here : clashes store (block_digest b) b ≡ false
  alone_here = alone_in s store now d b seen own alone

  parent_here : is_stored store b.cert.block ≡ true
  parent_here = rw same_blocks parent

  pub put_keeps : (kept : List Kept) → AreOf (record { setting = s; blocks = store }) kept → LeadBack new × AreOf (record { setting = s; blocks = new }) kept
  put_keeps kept are = rw put (led_with store b led alone_here parent_here, of_with store b led alone_here parent_here s kept are)

  module _ (found : block_at (with_block b store) (block_digest b) ≡ Some b) where
    pub put_stored : is_stored new d ≡ true
    put_stored = rw (put, own) (or_right (digest_eq (block_digest b) first_digest) _ (ap is_some found))

    pub put_chain : chain_state_of (record { setting = s; blocks = new }) d ≡ applied (chain_state_of now b.cert.block) (lists_of b)
    put_chain = rw (put, own) (one_on s (with_block b store) (block_digest b) b (led_with store b led alone_here parent_here) found
        ∙ ap (λ (c : Standings). applied c (lists_of b))
        (state_with store b led alone_here parent_here s b.cert.block parent_here ∙ ap (λ (x : Stored). chain_state_of x b.cert.block) seen))

-- nothing is stored yet
pub led_at_first : LeadBack []
led_at_first = record {
  first = refl;
  parents = λ d b found. absurd (cc);
  ends = λ steps d within. none_after steps d;
}
  where
    none_after : (steps : ℕ) (d : Digest) → following steps [] d ≡ []
    none_after zero d = refl
    none_after (suc steps) d = refl
