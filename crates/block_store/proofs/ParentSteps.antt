-- Parents are stored before their children, so steps from parent to parent end at the first block.
use Rattle.std.proofs.Common.{◌≡◌, ◌≢◌, ℕ, zero, suc, ◌<◌, ◌≤◌, List, [], ◌∷◌, ◌++◌, length, get_or, Bool, true, false, cond, ◌||◌, Option, Some, None, is_some, find, refl, sym, ap, ◌∙◌, inl, inr, arith, append_assoc, length-append}
use Rattle.std.specs.Option.{option_map, option_map_or, option_or}
use Rattle.std.proofs.lemmas.Bool.{cases_Bool, or_cases, or_left, or_right, false_from_ne_true, and_parts, and_from, not-false, both_ways}
use Rattle.std.specs.Prelude.{Contains}
use Rattle.std.proofs.Math.Seq.{get_or-append_seam}
use Rattle.std.proofs.lemmas.List.{append-nil}
use Rattle.std.proofs.lemmas.List.Elements.{All-contains}
use Rattle.std.proofs.lemmas.List.Folds.{find-append}
use Rattle.std.proofs.lemmas.Option.{same_Some}
use Rattle.seq_base.specs.declared.digest.Digest.{Digest}
use Rattle.seq_base.specs.declared.block.Block.{Block}
use Rattle.seq_base.specs.Blocks.{first_digest, digest_eq, digest_eq_decides, block_eq, block_eq_decides}
use Rattle.seq_base.proofs.Options.{there, mapped}
use Rattle.block_store.specs.Store.{block_digest, has_digest, block_at, is_stored, is_other, clashes, with_block}
use Rattle.block_store.specs.Chains.{parent_of, reaches, extends, following, chain_of, Leads, Extends, Follow}
use Rattle.block_store.specs.Entries.{IsStore}
use Rattle.block_store.proofs.Kept.{clashes_parts}

-- where an item is found
record FoundIn {X : Type 0} (p : X → Bool) (xs : List X) (x : X) : Type 0 where
  before : List X
  after : List X
  is : xs ≡ before ++ x ∷ after
  passes : p x ≡ true

found_in : {X : Type 0} (p : X → Bool) (xs : List X) (x : X) → find p xs ≡ Some x → FoundIn p xs x
found_in p [] x found = absurd (cc)
found_in {X} p (y ∷ ys) x found = by (p y) refl (λ later. found_in p ys x later)
  where
    by : (t : Bool) → p y ≡ t → (find p ys ≡ Some x → FoundIn p ys x) → FoundIn p (y ∷ ys) x
    by true here further =
        let first : Some y ≡ Some x = ap (λ (t : Bool). cond t (Some y) (find p ys)) (sym here) ∙ found in
        let same : y ≡ x = cc in
        record { before = []; after = ys; is = ap (λ (z : X). z ∷ ys) same; passes = ap p (sym same) ∙ here }
    by false elsewhere further =
        let rest = further (ap (λ (t : Bool). cond t (Some y) (find p ys)) (sym elsewhere) ∙ found) in
        record { before = y ∷ rest.before; after = rest.after; is = ap (λ (zs : List X). y ∷ zs) rest.is; passes = rest.passes }

contained : {X : Type 0} (p : X → Bool) (xs : List X) (x : X) → FoundIn p xs x → Contains xs x
contained p xs x place = (
  length place.before,
  (omega (arith, ap length place.is, length-append place.before (x ∷ place.after))),
  ap (λ l. get_or l (length place.before) x) place.is ∙ get_or-append_seam place.before x place.after x,
)

-- what the first part of a list finds, the whole finds
pub found_first : {X : Type 0} (p : X → Bool) (xs ys : List X) (x : X) → find p xs ≡ Some x → find p (xs ++ ys) ≡ Some x
found_first {X} p xs ys x found = find-append p xs ys ∙ ap (λ (o : Option X). option_or o (find p ys)) found

module _ (store : List Block) (is : IsStore store) where
  -- A block that has a parent is not the first one.
  not_first : (a : Digest) (x : Block) → block_at store a ≡ Some x → digest_eq a first_digest ≡ false
  not_first a x found =
      let place = found_in (has_digest a) store x found in
      let own : a ≡ block_digest x = (digest_eq_decides a (block_digest x)).0 place.passes in
      let inside : block_digest x ≢ first_digest =
      All-contains (λ b. block_digest b ≢ first_digest) store x is.not_first (contained (has_digest a) store x place) in
      false_from_ne_true (digest_eq a first_digest) (λ same. inside (sym own ∙ (digest_eq_decides a first_digest).0 same))

  -- the parent of a block in a prefix of the store is in a shorter prefix
  record Shorter (before : List Block) (p : Digest) : Type 0 where
    prefix : List Block
    rest : List Block
    splits : store ≡ prefix ++ rest
    shorter : length prefix < length before
    stored : is_stored prefix p ≡ true

  parent_within : (before rest : List Block) (a p : Digest) → store ≡ before ++ rest → is_stored before a ≡ true → parent_of store a ≡ Some p → Shorter before p
  parent_within before rest a p splits stored parent =
      let block = mapped (λ b. b.cert.block) (block_at store a) p parent in
      let other : digest_eq a first_digest ≡ false = not_first a block.0 block.1 in
      let in_prefix : is_some (block_at before a) ≡ true = ap (λ (t : Bool). t || is_some (block_at before a)) (sym other) ∙ stored in
      let found = there (block_at before a) in_prefix in
      let whole : block_at store a ≡ Some found.0 = ap (λ (blocks : List Block). block_at blocks a) splits
      ∙ found_first (has_digest a) before rest found.0 found.1 in
      let same : found.0 ≡ block.0 = same_Some found.0 block.0 (sym whole ∙ block.1) in
      let place = found_in (has_digest a) before found.0 found.1 in
      let apart : store ≡ place.before ++ found.0 ∷ (place.after ++ rest) = splits ∙ ap (λ (blocks : List Block). blocks ++ rest) place.is
      ∙ append_assoc place.before (found.0 ∷ place.after) rest in
      let after_it : is_stored place.before found.0.cert.block ≡ true = is.parents place.before found.0 (place.after ++ rest) apart in
      let is_parent : found.0.cert.block ≡ p = ap (λ (b : Block). b.cert.block) same ∙ block.2 in
      record {
        prefix = place.before;
        rest = found.0 ∷ (place.after ++ rest);
        splits = apart;
        shorter = (omega (arith, ap length place.is, length-append place.before (found.0 ∷ place.after)));
        stored = ap (is_stored place.before) (sym is_parent) ∙ after_it;
      }

  -- There are no more steps than stored blocks.
  steps_within : (steps : ℕ) (before rest : List Block) (a b : Digest) → store ≡ before ++ rest → is_stored before a ≡ true
      → Leads store steps a b → steps ≤ length before
  steps_within zero before rest a b splits stored path = omega arith
  steps_within (suc steps) before rest a b splits stored path =
      let next = parent_within before rest a path.0 splits stored path.1 in
      omega (arith, next.shorter, steps_within steps next.prefix next.rest path.0 b next.splits next.stored path.2)

  reaches_shows : (n : ℕ) (a b : Digest) → reaches n store a b ≡ true → Extends store a b
  reaches_shows zero a b reached = (0, (digest_eq_decides a b).0 reached)
  reaches_shows (suc n) a b reached = elim (or_cases (digest_eq a b) (option_map_or (λ p. reaches n store p b) (parent_of store a) false) reached) [
    | inl here ↦ (0, (digest_eq_decides a b).0 here)
    | inr further ↦ by (parent_of store a) refl further (λ p reached. reaches_shows n p b reached)
  ]
    where
      by : (o : Option Digest) → parent_of store a ≡ o → option_map_or (λ p. reaches n store p b) o false ≡ true
          → ((p : Digest) → reaches n store p b ≡ true → Extends store p b) → Extends store a b
      by None parent further rest = absurd (cc)
      by (Some p) parent further rest = (suc (rest p further).0, (p, parent, (rest p further).1))

  reaches_from : (n steps : ℕ) (a b : Digest) → steps ≤ n → Leads store steps a b → reaches n store a b ≡ true
  reaches_from zero zero a b within path = (digest_eq_decides a b).1 path
  reaches_from zero (suc steps) a b within path = absurd (omega arith)
  reaches_from (suc n) zero a b within path = or_left (digest_eq a b) _ ((digest_eq_decides a b).1 path)
  reaches_from (suc n) (suc steps) a b within path =
      let further : option_map_or (λ p. reaches n store p b) (parent_of store a) false ≡ true =
      rw path.1 (reaches_from n steps path.0 b (omega arith) path.2) in
      or_right (digest_eq a b) _ further

  whole_store : store ≡ store ++ []
  whole_store = sym (append-nil store)

  pub extends_iff : (a b : Digest) → is_stored store a ≡ true
      → ((extends store a b ≡ true) → Extends store a b) × (Extends store a b → extends store a b ≡ true)
  extends_iff a b stored = (
    (λ yes. reaches_shows (length store) a b (and_parts (is_stored store a) (reaches (length store) store a b) yes).1),
    (λ path. and_from (is_stored store a) (reaches (length store) store a b) stored
        (reaches_from (length store) path.0 a b (steps_within path.0 store [] a b whole_store stored path.1) path.1)),
  )

  follow-push : (first last next : Digest) (digests : List Digest) → Follow store first digests last → parent_of store next ≡ Some last
      → Follow store first (digests ++ next ∷ []) next
  follow-push first last next [] path parent = (parent ∙ ap (λ (d : Digest). Some d) (sym path), refl)
  follow-push first last next (d ∷ digests) path parent = (path.0, follow-push d last next digests path.1 parent)

  -- A stored block without a parent is the first one.
  first_without_parent : (a : Digest) → is_stored store a ≡ true → parent_of store a ≡ None → first_digest ≡ a
  first_without_parent a stored none = elim (or_cases (digest_eq a first_digest) (is_some (block_at store a)) stored) [
    | inl first ↦ sym ((digest_eq_decides a first_digest).0 first)
    | inr found ↦ let block = there (block_at store a) found in absurd (cc (block.1, none))
  ]

  stored_in_whole : (before rest : List Block) (a : Digest) → store ≡ before ++ rest → is_stored before a ≡ true → is_stored store a ≡ true
  stored_in_whole before rest a splits stored = elim (or_cases (digest_eq a first_digest) (is_some (block_at before a)) stored) [
    | inl first ↦ or_left (digest_eq a first_digest) _ first
    | inr found ↦
        let block = there (block_at before a) found in
        let whole : block_at store a ≡ Some block.0 = ap (λ (blocks : List Block). block_at blocks a) splits
        ∙ found_first (has_digest a) before rest block.0 block.1 in
        or_right (digest_eq a first_digest) _ (ap is_some whole)
  ]

  pub parent_stored : (a p : Digest) → parent_of store a ≡ Some p → is_stored store p ≡ true
  parent_stored a p parent =
      let block = mapped (λ b. b.cert.block) (block_at store a) p parent in
      let stored : is_stored store a ≡ true = or_right (digest_eq a first_digest) _ (ap is_some block.1) in
      let next = parent_within store [] a p whole_store stored parent in
      stored_in_whole next.prefix next.rest p next.splits next.stored

  pub first_has_none : parent_of store first_digest ≡ None
  first_has_none = by (block_at store first_digest) refl
    where
      by : (o : Option Block) → block_at store first_digest ≡ o → parent_of store first_digest ≡ None
      by None absent = ap (option_map (λ (b : Block). b.cert.block)) absent
      by (Some x) found =
          absurd (both_ways (digest_eq first_digest first_digest) (not_first first_digest x found) ((digest_eq_decides first_digest first_digest).1 refl))

  follows : (n : ℕ) (before rest : List Block) (a : Digest) → store ≡ before ++ rest → is_stored before a ≡ true → length before ≤ n
      → Follow store first_digest (following n store a) a
  follows zero [] rest a splits stored within = elim (or_cases (digest_eq a first_digest) false stored) [
    | inl first ↦ sym ((digest_eq_decides a first_digest).0 first)
    | inr absent ↦ absurd (cc)
  ]
  follows zero (b ∷ before) rest a splits stored within = absurd (omega arith)
  follows (suc n) before rest a splits stored within =
      by (parent_of store a) refl (λ p next. follows n next.prefix next.rest p next.splits next.stored (omega (arith, next.shorter)))
    where
      by : (o : Option Digest) → parent_of store a ≡ o → ((p : Digest) → Shorter before p → Follow store first_digest (following n store p) p)
          → Follow store first_digest (option_map_or (λ p. following n store p ++ a ∷ []) o []) a
      by None none chain = first_without_parent a (stored_in_whole before rest a splits stored) none
      by (Some p) parent chain = follow-push first_digest p a (following n store p) (chain p (parent_within before rest a p splits stored parent)) parent

  pub chain_follows : (a : Digest) → is_stored store a ≡ true → Follow store first_digest (chain_of store a) a
  chain_follows a stored = follows (length store) store [] a whole_store stored (omega arith)

pub stays : (store : List Block) (next : Block) (digest : Digest) (block : Block) → block_at store digest ≡ Some block
    → block_at (with_block next store) digest ≡ Some block
stays store next digest block found = elim (cases_Bool (is_some (block_at store (block_digest next)))) [
  | inl known ↦ rw known found
  | inr new ↦ rw new (found_first (has_digest digest) store (next ∷ []) block found)
]

pub is_found : (store : List Block) (block : Block) → clashes store (block_digest block) block ≡ false
    → block_at (with_block block store) (block_digest block) ≡ Some block
is_found store block alone = by (block_at store (block_digest block)) refl
    (clashes_parts (digest_eq (block_digest block) first_digest) (is_other (block_at store (block_digest block)) block) alone).1
  where
    by : (o : Option Block) → block_at store (block_digest block) ≡ o → is_other (block_at store (block_digest block)) block ≡ false
        → block_at (with_block block store) (block_digest block) ≡ Some block
    by None absent single =
        rw (
          absent,
          find-append (has_digest (block_digest block)) store (block ∷ []),
          absent,
          (digest_eq_decides (block_digest block) (block_digest block)).1 refl,
        )
        refl
    by (Some b) found single =
        let same : b ≡ block = (block_eq_decides b block).0 (not-false (block_eq b block) (rw found at single)) in
        rw found (found ∙ ap (λ (x : Block). Some x) same)
