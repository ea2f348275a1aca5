-- A node's store and the blocks that its journal shows are the same, found by their digests.
use Rattle.std.proofs.Common.{◌≡◌, ℕ, zero, suc, ◌+◌, ◌<◌, ◌≤◌, max, nat_lt, arith, ◌==◌, ◌&&◌, if◌then◌else◌, List, [], ◌∷◌, length, Bool, true, false, cond, Option, Some, None, refl, sym, ap, ◌∙◌, inl, inr}
use Rattle.std.specs.Prelude.{unwrap_or}
use Rattle.std.specs.Option.{option_map, option_map_or, option_and_then}
use Rattle.std.proofs.lemmas.Bool.{cases_Bool, or_cases, both_ways}
use Rattle.seq_base.specs.declared.digest.Digest.{Digest}
use Rattle.seq_base.specs.declared.block.Block.{Block}
use Rattle.seq_base.specs.Blocks.{first_digest, digest_eq}
use Rattle.sha2.specs.Sha256.{sha256, digest_bytes}
use Rattle.block_store.specs.Store.{block_digest, block_at, is_stored, view_of}
use Rattle.block_store.specs.Chains.{parent_of, reaches}
use Rattle.hotstuff_core.specs.Rules as rules
use Rattle.hotstuff_core.specs.Rules.{State as Safe, view_at, moved, seen_in}
use Rattle.agreement_laws.specs.Journals.{Named, first_block}
use Rattle.agreement_laws.specs.JournalPrefixes as prefixes
use Rattle.agreement_laws.specs.JournalPrefixes.{parent_in, head_if, head_after, Leads}
use Rattle.agreement_laws.specs.Seen.{higher, lock_seen, commit_seen}
use Rattle.agreement_laws.proofs.Digests.{false_other, same_true, true_same}
use Rattle.journal_rules.specs.Shown.{named}
use Rattle.journal_rules.specs.Stores.{at, HasParent, IsTied}

pub eq_false : (a b : Digest) → digest_eq a b ≡ false → a ≡ b → ⊥
eq_false a b is same = both_ways (digest_eq a b) is (true_same a b same)

pub eq_sym : (a b : Digest) → digest_eq a b ≡ digest_eq b a
eq_sym a b = elim (cases_Bool (digest_eq b a)) [
  | inl is ↦ true_same a b (sym (same_true b a is)) ∙ sym is
  | inr not ↦ false_other a b (λ same. eq_false b a not (sym same)) ∙ sym not
]

-- ---- what `at` answers

pub at_first : (store : List Block) (d : Digest) → d ≡ first_digest → at store d ≡ Some first_block
at_first store d is = rw (true_same d first_digest is)

pub at_other : (store : List Block) (d : Digest) → (d ≡ first_digest → ⊥) → at store d ≡ option_map named (block_at store d)
at_other store d other = rw (false_other d first_digest other)

-- the first block, or one that is found
pub at_cases : (store : List Block) (d : Digest) (b : Named) (P : Type 0) → at store d ≡ Some b → (d ≡ first_digest → first_block ≡ b → P)
    → ((d ≡ first_digest → ⊥) → (x : Block) → block_at store d ≡ Some x → named x ≡ b → P) → P
at_cases store d b P found first other = elim (cases_Bool (digest_eq d first_digest)) [
  | inl is ↦
      let one : Some first_block ≡ Some b = sym (at_first store d (same_true d first_digest is)) ∙ found in
      let same : first_block ≡ b = cc in
      first (same_true d first_digest is) same
  | inr not ↦ by (block_at store d) refl (sym (at_other store d (eq_false d first_digest not)) ∙ found) (eq_false d first_digest not)
]
  where
    by : (o : Option Block) → block_at store d ≡ o → option_map named (block_at store d) ≡ Some b → (d ≡ first_digest → ⊥) → P
    by None is some not = let none : None ≡ Some b = ap (option_map named) (sym is) ∙ some in absurd (cc)
    by (Some x) is some not =
        let one : Some (named x) ≡ Some b = ap (option_map named) (sym is) ∙ some in
        let same : named x ≡ b = cc in
        other not x is same

-- the block that is found has this digest
pub found_digest : (store : List Block) (d : Digest) (x : Block) → block_at store d ≡ Some x → block_digest x ≡ d
found_digest [] d x found = absurd (cc)
found_digest (y ∷ store) d x found = by (digest_eq d (block_digest y)) refl (found_digest store d x)
  where
    by : (t : Bool) → digest_eq d (block_digest y) ≡ t → (block_at store d ≡ Some x → block_digest x ≡ d) → block_digest x ≡ d
    by true is later =
        let one : Some y ≡ Some x = ap (λ (t : Bool). cond t (Some y) (block_at store d)) (sym is) ∙ found in
        let same : y ≡ x = cc in
        rw (← same) (sym (same_true d (block_digest y) is))
    by false is later = later (ap (λ (t : Bool). cond t (Some y) (block_at store d)) (sym is) ∙ found)

pub at_digest : (store : List Block) (d : Digest) (b : Named) → at store d ≡ Some b → b.digest ≡ d
at_digest store d b found = at_cases store d b (b.digest ≡ d) found
    (λ is same. ap (λ (n : Named). n.digest) (sym same) ∙ sym is)
    (λ not x is same. ap (λ (n : Named). n.digest) (sym same) ∙ found_digest store d x is)

pub at_view : (store : List Block) (d : Digest) (b : Named) → at store d ≡ Some b → view_at store d ≡ b.view
at_view store d b found = at_cases store d b (view_at store d ≡ b.view) found
    (λ is same. rw (true_same d first_digest is) (ap (λ (n : Named). n.view) same))
    (λ not x is same. rw (false_other d first_digest not, is) (ap (λ (n : Named). n.view) same))

pub view_found : (store : List Block) (d : Digest) (b : Named) → at store d ≡ Some b → view_of store d ≡ Some b.view
view_found store d b found = at_cases store d b (view_of store d ≡ Some b.view) found
    (λ is same. rw (true_same d first_digest is) (ap (λ (n : Named). Some n.view) same))
    (λ not x is same. rw (false_other d first_digest not, is) (ap (λ (n : Named). Some n.view) same))

-- a stored block is found
pub stored_found : (store : List Block) (d : Digest) → is_stored store d ≡ true → (b : Named) × (at store d ≡ Some b)
stored_found store d stored = elim (cases_Bool (digest_eq d first_digest)) [
  | inl is ↦ (first_block, at_first store d (same_true d first_digest is))
  | inr not ↦ by (block_at store d) refl (eq_false d first_digest not) not
]
  where
    by : (o : Option Block) → block_at store d ≡ o → (d ≡ first_digest → ⊥) → digest_eq d first_digest ≡ false → (b : Named) × (at store d ≡ Some b)
    by None is other not = let never : false ≡ true = rw (← stored, not, is) refl in absurd (cc)
    by (Some x) is other not = (named x, at_other store d other ∙ ap (option_map named) is)

-- ---- digests

pub block_long : (b : Block) → length (block_digest b).0 ≡ 32
unfolding block_digest sha256 digest_bytes
block_long b = refl

-- a digest under which something is stored
pub stored_long : (store : List Block) (d : Digest) → is_stored store d ≡ true → length d.0 ≡ 32
stored_long store d there =
    let n = stored_found store d there in
    at_cases store d n.0 (length d.0 ≡ 32) n.1
    (λ is same. ap (λ (x : Digest). length x.0) is)
    (λ not x at_x same. ap (λ (e : Digest). length e.0) (sym (found_digest store d x at_x)) ∙ block_long x)

pub found_stored : (store : List Block) (d : Digest) (b : Named) → at store d ≡ Some b → is_stored store d ≡ true
found_stored store d b found = at_cases store d b (is_stored store d ≡ true) found
    (λ is same. rw (true_same d first_digest is))
    (λ not x is same. rw (false_other d first_digest not, is))

same_named : (store : List Block) (d e : Digest) (b a : Named) → at store d ≡ Some b → at store e ≡ Some a → d ≡ e → b ≡ a
same_named store d e b a found other is =
    let one : Some b ≡ Some a = sym found ∙ ap (at store) is ∙ other in
    let same : b ≡ a = cc in
    same

module _ (store : List Block) (blocks : List Named) (tied : IsTied store blocks) where
  -- what digests and blocks answer
  abbrev pub IsSame : Option Digest → Option Named → Type 0
  IsSame None None = Unit {0}
  IsSame None (Some b) = ⊥
  IsSame (Some d) None = ⊥
  IsSame (Some d) (Some b) = at store d ≡ Some b

  pub none_at_first : block_at store first_digest ≡ None
  none_at_first = by (block_at store first_digest) refl
    where
      by : (o : Option Block) → block_at store first_digest ≡ o → o ≡ None
      by None is = refl
      by (Some x) is = absurd ((tied.parents first_digest x is).other (found_digest store first_digest x is))

  pub parent_same : (d : Digest) (b : Named) → at store d ≡ Some b → IsSame (parent_of store d) (parent_in blocks b)
  parent_same d b found = at_cases store d b (IsSame (parent_of store d) (parent_in blocks b)) found
      (λ is same. rw (is, none_at_first, ← same) tt)
      (λ not x is same.
      let p : HasParent store x = tied.parents d x is in
      let other : digest_eq (block_digest x) first_digest ≡ false = false_other (block_digest x) first_digest p.other in
      rw (is, ← same, other, tied.same x.cert.block, p.found) p.found)

  -- what changes only to a greater view
  pub moved_same : (d : Digest) (b : Named) → at store d ≡ Some b → (o : Option Digest) (p : Option Named) → IsSame o p
      → at store (unwrap_or (moved store d o) d) ≡ Some (higher b p)
  moved_same d b found None None same = found
  moved_same d b found None (Some p) same = absurd same
  moved_same d b found (Some e) None same = absurd same
  moved_same d b found (Some e) (Some p) same = elim (cases_Bool (nat_lt b.view p.view)) [
    | inl less ↦ rw (at_view store d b found, at_view store e p same, less) same
    | inr not ↦ rw (at_view store d b found, at_view store e p same, not) found
  ]

  head_if_same : (view : ℕ) (b p g : Named) (e h : Digest) → b.view ≡ view → at store e ≡ Some p → at store h ≡ Some g
      → IsSame (rules.head_if store view e h) (head_if b p g)
  head_if_same view b p g e h is found other =
      rw (at_view store e p found, at_view store h g other, ← is)
      (by (b.view == p.view + 1) (p.view == g.view + 1))
    where
      by : (x y : Bool) → IsSame (cond (x && y) (Some h) None) (cond (y && x) (Some g) None)
      by true true = other
      by true false = tt
      by false true = tt
      by false false = tt

  pub head_same : (view : ℕ) (d : Digest) (b : Named) → at store d ≡ Some b → b.view ≡ view → IsSame (rules.head_of store view d) (head_after blocks b)
  head_same view d b found is = up (parent_of store d) (parent_in blocks b) (parent_same d b found)
    where
      top : (e : Digest) (p : Named) → at store e ≡ Some p → (o : Option Digest) (g : Option Named) → IsSame o g
          → IsSame (option_and_then (rules.head_if store view e) o) (option_and_then (λ g. head_if b p g) g)
      top e p at_e None None same = tt
      top e p at_e None (Some g) same = absurd same
      top e p at_e (Some h) None same = absurd same
      top e p at_e (Some h) (Some g) same = head_if_same view b p g e h is at_e same

      up : (o : Option Digest) (p : Option Named) → IsSame o p
          → IsSame (option_and_then (λ e. option_and_then (rules.head_if store view e) (parent_of store e)) o)
          (option_and_then (λ p. option_and_then (λ g. head_if b p g) (parent_in blocks p)) p)
      up None None same = tt
      up None (Some p) same = absurd same
      up (Some e) None same = absurd same
      up (Some e) (Some p) same = top e p same (parent_of store e) (parent_in blocks p) (parent_same e p same)

  -- ---- where a certificate is seen for a stored block

  shown_parent : (c : Digest) (b : Named) → at store c ≡ Some b → prefixes.parent_of blocks c ≡ parent_in blocks b
  shown_parent c b found = ap (option_and_then (parent_in blocks)) (tied.same c ∙ found)

  shown_head : (c : Digest) (b : Named) → at store c ≡ Some b → prefixes.head_of blocks c ≡ head_after blocks b
  shown_head c b found = ap (option_and_then (head_after blocks)) (tied.same c ∙ found)

  module _ (s : Safe) (view : ℕ) (c : Digest) (b : Named) (found : at store c ≡ Some b) (is_view : b.view ≡ view) where
    pub lock_sees : (locked : Named) → at store s.lock ≡ Some locked → at store (seen_in store view c s).lock ≡ Some (lock_seen blocks locked (Some c))
    lock_sees locked at_lock = rw (shown_parent c b found) (moved_same s.lock locked at_lock (parent_of store c) (parent_in blocks b) (parent_same c b found))

    pub commit_sees : (committed : Named) → at store s.committed ≡ Some committed
        → at store (seen_in store view c s).committed ≡ Some (commit_seen blocks committed (Some c))
    commit_sees committed at_commit =
        rw (shown_head c b found)
        (moved_same s.committed committed at_commit (rules.head_of store view c) (head_after blocks b) (head_same view c b found is_view))

    -- The lock stays below the certificates that were seen.
    pub lock_below : (locked : Named) (high : ℕ) → at store s.lock ≡ Some locked → locked.view ≤ high → (lock_seen blocks locked (Some c)).view ≤ max high view
    lock_below locked high at_lock low = rw (shown_parent c b found) (up (parent_of store c) (parent_in blocks b) (parent_same c b found) below)
      where
        below : (p : Named) → parent_in blocks b ≡ Some p → p.view < b.view
        below p is = at_cases store c b (p.view < b.view) found
            (λ first same. let none : None ≡ Some p = sym (rw (← same) refl) ∙ is in absurd (cc))
            (λ not x at_x same.
            let q : HasParent store x = tied.parents c x at_x in
            let other : digest_eq (block_digest x) first_digest ≡ false = false_other (block_digest x) first_digest q.other in
            let one : Some q.parent ≡ Some p = sym (rw (← same, other, tied.same x.cert.block) q.found) ∙ is in
            let p_is : q.parent ≡ p = cc in
            let view_is : b.view ≡ x.view = ap (λ (n : Named). n.view) (sym same) in
            let parent_view : p.view ≡ x.cert.view = ap (λ (n : Named). n.view) (sym p_is) ∙ q.view in
            omega (arith, view_is, parent_view, q.below))

        up : (o : Option Digest) (p : Option Named) → IsSame o p → ((q : Named) → p ≡ Some q → q.view < b.view) → (higher locked p).view ≤ max high view
        up o None same lower = omega (arith, low)
        up o (Some p) same lower = by (nat_lt locked.view p.view)
          where
            less : p.view < b.view
            less = lower p refl

            by : (t : Bool) → (if t then p else locked).view ≤ max high view
            by true = omega (arith, less, is_view)
            by false = omega (arith, low)

  -- ---- parent steps

  pub leads : (steps : ℕ) (d to : Digest) (b a : Named) → at store d ≡ Some b → at store to ≡ Some a → reaches steps store d to ≡ true
      → (k : ℕ) × Leads blocks k b a
  leads zero d to b a found found_a is = (0, same_named store d to b a found found_a (same_true d to is))
  leads (suc steps) d to b a found found_a is = elim (or_cases (digest_eq d to) _ is) [
    | inl here ↦ (0, same_named store d to b a found found_a (same_true d to here))
    | inr there ↦ by (parent_of store d) (parent_in blocks b) refl (parent_same d b found) there (λ e p at_e. leads steps e to p a at_e found_a)
  ]
    where
      by : (o : Option Digest) (p : Option Named) → parent_in blocks b ≡ p → IsSame o p → option_map_or (λ e. reaches steps store e to) o false ≡ true
          → ((e : Digest) (q : Named) → at store e ≡ Some q → reaches steps store e to ≡ true → (k : ℕ) × Leads blocks k q a) → (k : ℕ) × Leads blocks k b a
      by None p is_p same is_true on = absurd (cc)
      by (Some e) None is_p same is_true on = absurd same
      by (Some e) (Some q) is_p same is_true on = let more = on e q same is_true in (suc more.0, (q, is_p, more.1))
