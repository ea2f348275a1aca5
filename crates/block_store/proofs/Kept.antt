-- Entries of a map, and its blocks.
use Rattle.std.proofs.Common.{◌≡◌, ◌≢◌, ℕ, zero, suc, ◌<◌, List, [], ◌∷◌, ◌++◌, map, Bool, true, false, true≢false, cond, Some, is_some, slice_get, refl, sym, ap, subst, ◌∙◌, inl, inr, arith, length, length-append, get_or}
use Rattle.std.specs.Prelude.{◌⊎◌}
use Rattle.std.specs.Map.{lookup}
use Rattle.std.proofs.lemmas.Bool.{cases_Bool, both_ways, not-false}
use Rattle.std.proofs.lemmas.List.{map-append}
use Rattle.std.proofs.lemmas.List.Elements.{All-get_or, All-nil, All-push}
use Rattle.std.proofs.lemmas.List.Quantifiers.{all_pairs_push}
use Rattle.std.proofs.lemmas.Option.{get_or_from_slice_get, slice_get_within}
use Rattle.indexmap.specs.IndexMap.{insert_entry}
use Rattle.seq_base.specs.declared.digest.Digest.{Digest}
use Rattle.seq_base.specs.declared.block.Block.{Block}
use Rattle.seq_base.specs.Blocks.{first_digest, digest_eq, block_eq, digest_eq_decides, block_eq_decides}
use Rattle.seq_base.specs.Limits.{IsWithin}
use Rattle.block_store.specs.Store.{block_digest, has_digest, block_at, is_stored, is_other, clashes, with_block}
use Rattle.block_store.specs.Entries.{blocks_of, IsStore, AreKept}

-- each entry is under its block's digest
abbrev AreOwn : List (Digest × Block) → Type 0
AreOwn es = map (λ e. e.0) es ≡ map block_digest (blocks_of es)

head_own : (e : Digest × Block) (es : List (Digest × Block)) → AreOwn (e ∷ es) → e.0 ≡ block_digest e.1
head_own e es own = cc

tail_own : (e : Digest × Block) (es : List (Digest × Block)) → AreOwn (e ∷ es) → AreOwn es
tail_own e es own = cc

-- the map finds what is found among the blocks
pub lookup-kept : (es : List (Digest × Block)) (digest : Digest) → AreOwn es → lookup (digest_eq digest) es ≡ block_at (blocks_of es) digest
lookup-kept [] digest own = refl
lookup-kept (e ∷ es) digest own = rw (head_own e es own, lookup-kept es digest (tail_own e es own)) refl

-- an entry for a block that is present, or that is new
abbrev added : List (Digest × Block) → Digest → Block → List (Digest × Block)
added es digest block = cond (is_some (block_at (blocks_of es) digest)) es (es ++ (digest, block) ∷ [])

pub insert_entry-kept : (es : List (Digest × Block)) (digest : Digest) (block : Block) → AreOwn es → is_other (block_at (blocks_of es) digest) block ≡ false
    → insert_entry digest_eq es digest block ≡ added es digest block
insert_entry-kept [] digest block own alone = refl
insert_entry-kept (e ∷ es) digest block own alone =
    let under : digest_eq digest e.0 ≡ has_digest digest e.1 = ap (digest_eq digest) (head_own e es own) in
    elim (cases_Bool (has_digest digest e.1)) [
      | inl here ↦
          let single : is_other (cond (has_digest digest e.1) (Some e.1) (block_at (blocks_of es) digest)) block ≡ false = alone in
          let same : e.1 ≡ block = (block_eq_decides e.1 block).0 (not-false (block_eq e.1 block) (rw here at single)) in
          let entry : Block → Digest × Block = λ b. (e.0, b) in
          rw (under, here) (ap (λ (b : Block). entry b ∷ es) (sym same))
      | inr elsewhere ↦
          let single : is_other (cond (has_digest digest e.1) (Some e.1) (block_at (blocks_of es) digest)) block ≡ false = alone in
          rw (under, elsewhere, insert_entry-kept es digest block (tail_own e es own) (rw elsewhere at single))
          (elim (cases_Bool (is_some (block_at (blocks_of es) digest))) [
            | inl there ↦ rw there refl
            | inr absent ↦ rw absent refl
          ])
    ]

-- a longer list split at the last item, or before it
apart : {X : Type 0} (xs : List X) (x : X) (before : List X) (y : X) (after : List X) → xs ++ x ∷ [] ≡ before ++ y ∷ after
    → ((before ≡ xs) × (y ≡ x)) ⊎ ((rest : List X) × (xs ≡ before ++ y ∷ rest))
apart [] x [] y after same = inl (refl, (cc))
apart [] x (b ∷ before) y after same =
    let rest : [] ≡ before ++ y ∷ after = cc in
    absurd (omega (arith, ap length rest, length-append before (y ∷ after)))
apart (z ∷ xs) x [] y after same = inr (xs, (cc))
apart (z ∷ xs) x (b ∷ before) y after same =
    let head : z ≡ b = cc in
    let tail : xs ++ x ∷ [] ≡ before ++ y ∷ after = cc in
    elim (apart xs x before y after tail) [
      | inl last ↦ inl (rw (head, last.0) refl, last.1)
      | inr (rest, is) ↦ inr (rest, (rw (head, is) refl))
    ]

-- a digest that is not found is no stored block's
unfound : (store : List Block) (digest : Digest) → is_some (block_at store digest) ≡ false → (k : ℕ) (d : Block) → k < length store
    → block_digest (get_or store k d) ≢ digest
unfound [] digest none k d below = absurd (omega arith)
unfound (b ∷ store) digest none zero d below = λ same.
    let here : has_digest digest b ≡ true = (digest_eq_decides digest (block_digest b)).1 (sym same) in
    let found : is_some (cond (has_digest digest b) (Some b) (block_at store digest)) ≡ false = none in
    true≢false (rw here at found)
unfound (b ∷ store) digest none (suc k) d below =
    let found : is_some (cond (has_digest digest b) (Some b) (block_at store digest)) ≡ false = none in
    elim (cases_Bool (has_digest digest b)) [
      | inl here ↦ absurd (true≢false (rw here at found))
      | inr elsewhere ↦ unfound store digest (rw elsewhere at found) k d (omega arith)
    ]

store-push : (store : List Block) (block : Block) → IsStore store → IsWithin block → block_digest block ≢ first_digest → is_stored store block.cert.block ≡ true
    → is_some (block_at store (block_digest block)) ≡ false → IsStore (store ++ block ∷ [])
store-push store block is within not_first parent absent = record {
  within = All-push IsWithin store block is.within within;
  not_first = All-push (λ b. block_digest b ≢ first_digest) store block is.not_first not_first;
  parents = λ before b after same. elim (apart store block before b after same) [
    | inl last ↦ rw (last.0, last.1) parent
    | inr (rest, within) ↦ is.parents before b rest within
  ];
  differ = all_pairs_push (λ a b. block_digest a ≢ block_digest b) store block is.differ (unfound store (block_digest block) absent);
}

pub clashes_parts : (first : Bool) (other : Bool) → cond first true other ≡ false → (first ≡ false) × (other ≡ false)
clashes_parts true other none = absurd (cc)
clashes_parts false other none = (refl, none)

kept-push : (es : List (Digest × Block)) (digest : Digest) (block : Block) → AreKept es → IsWithin block → digest ≡ block_digest block
    → digest_eq digest first_digest ≡ false
    → is_stored (blocks_of es) block.cert.block ≡ true → is_some (block_at (blocks_of es) digest) ≡ false → AreKept (es ++ (digest, block) ∷ [])
kept-push es digest block kept within own not_first parent absent =
    let entry : Digest × Block = (digest, block) in
    let blocks : blocks_of (es ++ entry ∷ []) ≡ blocks_of es ++ block ∷ [] = map-append (λ (e : Digest × Block). e.1) es (entry ∷ []) in
    record {
      own = rw (map-append (λ (e : Digest × Block). e.0) es (entry ∷ []), blocks, map-append block_digest (blocks_of es) (block ∷ []), kept.own, own) refl;
      store = rw blocks (store-push (blocks_of es) block kept.store within
          (λ same. both_ways (digest_eq digest first_digest) not_first ((digest_eq_decides digest first_digest).1 (own ∙ same))) parent (rw own at absent));
    }

pub kept-added : (es : List (Digest × Block)) (digest : Digest) (block : Block) → AreKept es → IsWithin block → digest ≡ block_digest block
    → is_stored (blocks_of es) block.cert.block ≡ true → clashes (blocks_of es) digest block ≡ false → AreKept (insert_entry digest_eq es digest block)
kept-added es digest block kept within own parent alone =
    let parts = clashes_parts (digest_eq digest first_digest) (is_other (block_at (blocks_of es) digest) block) alone in
    rw (insert_entry-kept es digest block kept.own parts.1)
    (elim (cases_Bool (is_some (block_at (blocks_of es) digest))) [
      | inl there ↦ rw there kept
      | inr absent ↦ rw absent (kept-push es digest block kept within own parts.0 parent absent)
    ])

pub blocks-added : (es : List (Digest × Block)) (digest : Digest) (block : Block) → AreKept es → digest ≡ block_digest block
    → clashes (blocks_of es) digest block ≡ false → blocks_of (insert_entry digest_eq es digest block) ≡ with_block block (blocks_of es)
blocks-added es digest block kept own alone =
    let parts = clashes_parts (digest_eq digest first_digest) (is_other (block_at (blocks_of es) digest) block) alone in
    rw (← own, insert_entry-kept es digest block kept.own parts.1)
    (elim (cases_Bool (is_some (block_at (blocks_of es) digest))) [
      | inl there ↦ rw there refl
      | inr absent ↦ rw absent (map-append (λ (e : Digest × Block). e.1) es (let entry : Digest × Block = (digest, block) in entry ∷ []))
    ])

-- the block at a place is within its limits
pub within_at : (es : List (Digest × Block)) (place : ℕ) (block : Block) → AreKept es → slice_get (blocks_of es) place ≡ Some block → IsWithin block
within_at es place block kept found =
    subst IsWithin (get_or_from_slice_get (blocks_of es) place block block found)
    (All-get_or IsWithin (blocks_of es) place block (slice_get_within (blocks_of es) place block found) kept.store.within)

pub nothing-kept : AreKept []
nothing-kept = record {
  own = refl;
  store = record {
    within = All-nil IsWithin;
    not_first = All-nil (λ b. block_digest b ≢ first_digest);
    parents = λ before b after same. absurd (omega (arith, ap length same, length-append before (b ∷ after)));
    differ = λ i j d earlier below. absurd (omega arith);
  };
}
