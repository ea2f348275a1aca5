-- What the set and the map know once a block is received.
use Rattle.std.proofs.Common.{◌≡◌, ◌≢◌, ◌⊎◌, ℕ, List, [], ◌∷◌, ◌++◌, Bool, true, false, cond, not, ◌||◌, Bor, Option, Some, None, option_map, refl, sym, ap, ◌∙◌, inl, inr, is_eq}
use Rattle.std.proofs.lemmas.Bool.{false_from_ne_true}
use Rattle.std.specs.List.{list_any, find}
use Rattle.std.specs.Option.{option_or, is_some}
use Rattle.std.specs.Str.{bytes_eq}
use Rattle.std.specs.Cmp.Lexicographic.{bytes_decides, texts_ties}
use Rattle.std.specs.BTreeSet as sets
use Rattle.std.specs.BTreeMap as maps
use Rattle.std.specs.BTreeSet.{BTreeSet}
use Rattle.std.specs.BTreeMap.{BTreeMap}
use Rattle.std.proofs.lemmas.List.Folds.{list_any-append}
use Rattle.seq_base.specs.declared.digest.Digest.{Digest}
use Rattle.seq_base.specs.declared.block.Block.{Block}
use Rattle.seq_base.specs.Blocks.{digest_eq, digest_eq_decides, first_digest}
use Rattle.seq_base.specs.Spelling.{block_spelling}
use Rattle.seq_base.specs.Writable.{IsWritableBlock}
use Rattle.wire_write.specs.Digests.{digest_of}
use Rattle.block_store.specs.Store.{block_digest}
use Rattle.run_verdict.specs.Collided.{Received, collides, place_of, is_zero, with_first, collision_with}
use Rattle.run_verdict.specs.Seen.{bytes_cmp, digest_cmp, has_block, has_bytes, first_with, Knows}
use Rattle.run_verdict.proofs.Blocks.{OneSpelling, has_is, has_more, writable_more, digest_found, collides_as, collides_none, first_more}

module _ (before : List Received) (r : Received) (set : BTreeSet (Bor (List ℕ))) (map : BTreeMap Digest (ℕ × ℕ)) (knows : Knows before set map) where
  -- a key is in the set exactly where its block was received
  pub key_is : OneSpelling → IsWritableBlock r.block → (key : Bor (List ℕ)) → key.now ≡ block_spelling r.block
      → sets.contains bytes_cmp set key ≡ has_block before r.block
  key_is once writable key spells = knows.spelled key ∙ rw spells (has_is once before r.block knows.writable writable)

  -- a block that was received makes no collision
  pub again_none : has_block before r.block ≡ true → collision_with before r ≡ None
  unfolding collision_with
  again_none has =
      let not_zero : is_zero r.block ≡ false =
      false_from_ne_true (is_zero r.block) (λ zero. knows.above r.block has ((digest_eq_decides (block_digest r.block) first_digest).0 zero)) in
      let none : find (λ x. collides x.block r.block) before ≡ None = collides_none before r.block (λ a had same. knows.apart a r.block had has same) in
      rw (not_zero, none) refl

  -- one of digest zero makes one
  pub zero_some : is_zero r.block ≡ true → collision_with before r ≡ Some (record { first = place_of r; second = None })
  unfolding collision_with
  zero_some zero = rw zero refl

  -- a new one makes one with the first of its digest
  pub new_some : (first : ℕ × ℕ) → has_block before r.block ≡ false → is_zero r.block ≡ false → maps.get digest_cmp map (block_digest r.block) ≡ Some first
      → collision_with before r ≡ Some (record { first = first; second = Some (place_of r) })
  unfolding collision_with
  new_some first new above found =
      rw (above, collides_as before r.block new)
      (with_it (find (λ x. digest_eq (block_digest x.block) (block_digest r.block)) before) (sym (knows.first (block_digest r.block)) ∙ found))
    where
      with_it : (o : Option Received) → option_map place_of o ≡ Some first
          → option_map (with_first r) o ≡ Some (record { first = first; second = Some (place_of r) })
      with_it None found = cc
      with_it (Some x) found = let same : place_of x ≡ first = cc in rw same refl

  pub new_none : has_block before r.block ≡ false → is_zero r.block ≡ false → maps.get digest_cmp map (block_digest r.block) ≡ None
      → collision_with before r ≡ None
  unfolding collision_with
  new_none new above none =
      rw (above, collides_as before r.block new)
      (no_one (find (λ x. digest_eq (block_digest x.block) (block_digest r.block)) before) (sym (knows.first (block_digest r.block)) ∙ none))
    where
      no_one : (o : Option Received) → option_map place_of o ≡ None → option_map (with_first r) o ≡ None
      no_one None none = refl
      no_one (Some x) none = cc

  -- a block that was received changes nothing
  pub knows_again : (later : BTreeSet (Bor (List ℕ))) → has_block before r.block ≡ true → IsWritableBlock r.block
      → sets.IsUnchanged set later → OneSpelling → Knows (before ++ r ∷ []) later map
  knows_again later has writable same once = record {
    spelled = λ bytes.
        ap (λ keys. list_any (λ key. is_eq (bytes_cmp bytes key)) keys) same
        ∙ knows.spelled bytes
        ∙ sym (list_any-append (λ x. bytes_eq (block_spelling x.block) bytes.now) before (r ∷ [])
        ∙ absorbed (has_bytes before bytes.now) (bytes_eq (block_spelling r.block) bytes.now) (had bytes.now));
    first = λ digest. knows.first digest
        ∙ sym (first_more before r digest ∙ kept (first_with before digest) (digest_eq (block_digest r.block) digest) (place_of r) (met digest));
    writable = writable_more before r knows.writable writable;
    apart = λ a b first second. knows.apart a b (earlier a first) (earlier b second);
    above = λ a first. knows.above a (earlier a first);
  }
    where
      had : (bytes : List ℕ) → bytes_eq (block_spelling r.block) bytes ≡ true → has_bytes before bytes ≡ true
      had bytes is = rw (← (bytes_decides (block_spelling r.block) bytes).0 is) (has_is once before r.block knows.writable writable ∙ has)

      absorbed : (h x : Bool) → (x ≡ true → h ≡ true) → (h || (x || false)) ≡ h
      absorbed true x here = refl
      absorbed false true here = sym (here refl)
      absorbed false false here = refl

      met : (digest : Digest) → digest_eq (block_digest r.block) digest ≡ true → is_some (first_with before digest) ≡ true
      met digest is = rw (← (digest_eq_decides (block_digest r.block) digest).0 is) (digest_found before r.block has)

      kept : (o : Option (ℕ × ℕ)) (here : Bool) (place : ℕ × ℕ) → (here ≡ true → is_some o ≡ true) → option_or o (cond here (Some place) None) ≡ o
      kept None true place found = let some = found refl in cc
      kept None false place found = refl
      kept (Some x) here place found = refl

      earlier : (a : Block) → has_block (before ++ r ∷ []) a ≡ true → has_block before a ≡ true
      earlier a first = elim (has_more before r a first) [
        | inl before_it ↦ before_it
        | inr is ↦ rw (← is) has
      ]

  -- a new one is known by its bytes and its digest
  pub knows_more : (later : BTreeSet (Bor (List ℕ))) (places : BTreeMap Digest (ℕ × ℕ)) (key : Bor (List ℕ))
      → has_block before r.block ≡ false → IsWritableBlock r.block
      → is_zero r.block ≡ false → maps.get digest_cmp map (block_digest r.block) ≡ None → key.now ≡ block_spelling r.block
      → sets.Updates bytes_cmp set later key true → maps.Updates digest_cmp map places (block_digest r.block) (Some (place_of r))
      → Knows (before ++ r ∷ []) later places
  knows_more later places key new writable above none spells inserted placed = record {
    spelled = λ bytes.
        inserted.0 bytes
        ∙ rw (
          sym (texts_ties key.now bytes.now),
          spells,
          knows.spelled bytes,
          list_any-append (λ x. bytes_eq (block_spelling x.block) bytes.now) before (r ∷ []),
        )
        (one_more (bytes_eq (block_spelling r.block) bytes.now) (has_bytes before bytes.now));
    first = λ digest.
        placed.0 digest
        ∙ rw (sym (texts_ties (block_digest r.block).0 digest.0), knows.first digest, first_more before r digest)
        (first_here (digest_eq (block_digest r.block) digest) (first_with before digest) (place_of r) (fresh digest));
    writable = writable_more before r knows.writable writable;
    apart = λ a b first second same. all_apart a b (has_more before r a first) (has_more before r b second) same;
    above = λ a first. all_above a (has_more before r a first);
  }
    where
      one_more : (here had : Bool) → cond here true had ≡ (had || (here || false))
      one_more true true = refl
      one_more true false = refl
      one_more false true = refl
      one_more false false = refl

      no_digest : first_with before (block_digest r.block) ≡ None
      no_digest = sym (knows.first (block_digest r.block)) ∙ none

      fresh : (digest : Digest) → digest_eq (block_digest r.block) digest ≡ true → first_with before digest ≡ None
      fresh digest is = rw (← (digest_eq_decides (block_digest r.block) digest).0 is) no_digest

      first_here : (here : Bool) (o : Option (ℕ × ℕ)) (place : ℕ × ℕ) → (here ≡ true → o ≡ None)
          → cond here (Some place) o ≡ option_or o (cond here (Some place) None)
      first_here true None place new = refl
      first_here true (Some x) place new = let none = new refl in cc
      first_here false None place new = refl
      first_here false (Some x) place new = refl

      -- no earlier block has the digest
      differs : (a : Block) → has_block before a ≡ true → block_digest a ≡ block_digest r.block → ⊥
      differs a had same =
          let found : is_some (first_with before (block_digest a)) ≡ true = digest_found before a had in
          let lost : first_with before (block_digest a) ≡ None = ap (first_with before) same ∙ no_digest in
          let wrong : is_some {T = ℕ × ℕ} None ≡ true = rw lost at found in
          cc

      all_apart : (a b : Block) → (has_block before a ≡ true) ⊎ (r.block ≡ a) → (has_block before b ≡ true) ⊎ (r.block ≡ b)
          → block_digest a ≡ block_digest b → a ≡ b
      all_apart a b (inl first) (inl second) same = knows.apart a b first second same
      all_apart a b (inl first) (inr is) same = absurd (differs a first (same ∙ ap block_digest (sym is)))
      all_apart a b (inr is) (inl second) same = absurd (differs b second (sym same ∙ ap block_digest (sym is)))
      all_apart a b (inr is) (inr too) same = sym is ∙ too

      all_above : (a : Block) → (has_block before a ≡ true) ⊎ (r.block ≡ a) → block_digest a ≢ first_digest
      all_above a (inl first) = knows.above a first
      all_above a (inr is) = λ zero. let yes : is_zero r.block ≡ true =
          (digest_eq_decides (block_digest r.block) first_digest).1 (ap block_digest is ∙ zero) in cc

-- a key that is not new was there, and a new one was not
pub was_there : (added had : Bool) → added ≡ not had → added ≡ false → had ≡ true
was_there added true is none = refl
was_there added false is none = cc

pub was_new : (added had : Bool) → added ≡ not had → added ≡ true → had ≡ false
was_new added true is new = cc
was_new added false is new = refl

-- the digest that is taken of a block's bytes
pub digest_is : (digest : Digest) (b : Block) → digest ≡ digest_of (block_spelling b) → digest ≡ block_digest b
unfolding block_digest
digest_is digest b is = is
