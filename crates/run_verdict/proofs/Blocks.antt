-- Blocks that were received: whether one of them is the same, and whether one of them has the same digest.
use Rattle.std.proofs.Common.{◌≡◌, ◌⊎◌, List, [], ◌∷◌, ◌++◌, Bool, true, false, cond, not, ◌&&◌, ◌||◌, Option, Some, None, option_map, refl, sym, ap, ◌∙◌, inl, inr}
use Rattle.std.specs.Bool.{Decides}
use Rattle.std.specs.List.{find, AllByRecursion}
use Rattle.std.specs.Option.{option_or, is_some}
use Rattle.std.specs.Str.{bytes_eq}
use Rattle.std.specs.Cmp.Lexicographic.{bytes_decides}
use Rattle.std.proofs.lemmas.Bool.{cases_Bool, or_cases, or_parts, or_left}
use Rattle.std.proofs.lemmas.Bool.Decides.{same_from_decides}
use Rattle.std.proofs.lemmas.List.Folds.{list_any-append, find-append}
use Rattle.seq_base.specs.declared.kinds.TheConstants.{GIVE, VERSION}
use Rattle.seq_base.specs.declared.digest.Digest.{Digest}
use Rattle.seq_base.specs.declared.block.Block.{Block}
use Rattle.seq_base.specs.declared.message.Message.{Message}
use Rattle.seq_base.specs.declared.message.Message.TheVariants.{Give}
use Rattle.seq_base.specs.Blocks.{block_eq, block_eq_decides, digest_eq, digest_eq_decides}
use Rattle.seq_base.specs.Spelling.{block_spelling, message_spelling}
use Rattle.seq_base.specs.Writable.{IsWritable, IsWritableBlock}
use Rattle.block_store.specs.Store.{block_digest}
use Rattle.run_verdict.specs.Collided.{Received, collides, place_of}
use Rattle.run_verdict.specs.Seen.{has_block, has_bytes, first_with}

-- no bytes spell two messages
abbrev pub OneSpelling : Type 0
OneSpelling = (m n : Message) → IsWritable m → IsWritable n → message_spelling m ≡ message_spelling n → m ≡ n

given : Message → Block → Block
given (Give block) other = block
given m other = other

spelled_once : OneSpelling → (a b : Block) → IsWritableBlock a → IsWritableBlock b → block_spelling a ≡ block_spelling b → a ≡ b
unfolding given
spelled_once once a b first second same = ap (λ m. given m a) (once (Give a) (Give b) first second (ap (λ bytes. VERSION ∷ GIVE ∷ bytes) same))

-- bytes of blocks are equal exactly where the blocks are
same_bytes : OneSpelling → (a b : Block) → IsWritableBlock a → IsWritableBlock b → bytes_eq (block_spelling a) (block_spelling b) ≡ block_eq a b
same_bytes once a b first second =
    let bytes = bytes_decides (block_spelling a) (block_spelling b) in
    let reported : Decides (bytes_eq (block_spelling a) (block_spelling b)) (a ≡ b) =
    ((λ yes. spelled_once once a b first second (bytes.0 yes)), (λ same. bytes.1 (ap block_spelling same))) in
    same_from_decides (bytes_eq (block_spelling a) (block_spelling b)) (block_eq a b) reported (block_eq_decides a b)

-- whether bytes of a block were received is whether the block was
pub has_is : OneSpelling → (before : List Received) (b : Block) → AllByRecursion (λ r. IsWritableBlock r.block) before → IsWritableBlock b
    → has_bytes before (block_spelling b) ≡ has_block before b
has_is once [] b all writable = refl
has_is once (r ∷ rs) b all writable = rw (same_bytes once r.block b all.0 writable, has_is once rs b all.1 writable) refl

pub writable_more : (before : List Received) (r : Received) → AllByRecursion (λ x. IsWritableBlock x.block) before → IsWritableBlock r.block
    → AllByRecursion (λ x. IsWritableBlock x.block) (before ++ r ∷ [])
writable_more [] r all writable = (writable, tt)
writable_more (x ∷ xs) r all writable = (all.0, writable_more xs r all.1 writable)

-- one block more
pub has_more : (before : List Received) (r : Received) (b : Block) → has_block (before ++ r ∷ []) b ≡ true → (has_block before b ≡ true) ⊎ (r.block ≡ b)
has_more before r b has =
    elim (or_cases (has_block before b) (block_eq r.block b || false) (sym (list_any-append (λ x. block_eq x.block b) before (r ∷ [])) ∙ has)) [
      | inl earlier ↦ inl earlier
      | inr here ↦ elim (or_cases (block_eq r.block b) false here) [
        | inl is ↦ inr ((block_eq_decides r.block b).0 is)
        | inr never ↦ cc
      ]
    ]

-- where a block was received, so was its digest
pub digest_found : (before : List Received) (b : Block) → has_block before b ≡ true → is_some (first_with before (block_digest b)) ≡ true
digest_found [] b has = cc
digest_found (r ∷ rs) b has =
    elim (cases_Bool (digest_eq (block_digest r.block) (block_digest b))) [
      | inl same ↦ rw same refl
      | inr other ↦ elim (or_cases (block_eq r.block b) (has_block rs b) has) [
        | inl is ↦
            let same : digest_eq (block_digest r.block) (block_digest b) ≡ true =
            (digest_eq_decides (block_digest r.block) (block_digest b)).1 (ap block_digest ((block_eq_decides r.block b).0 is)) in
            cc
        | inr later ↦ rw other (digest_found rs b later)
      ]
    ]

-- a block that was not received collides with each that has its digest
pub collides_as : (before : List Received) (b : Block) → has_block before b ≡ false
    → find (λ r. collides r.block b) before ≡ find (λ r. digest_eq (block_digest r.block) (block_digest b)) before
collides_as [] b none = refl
collides_as (r ∷ rs) b none =
    let parts = or_parts (block_eq r.block b) (has_block rs b) none in
    rw (parts.0, collides_as rs b parts.1) refl

-- where no two of the blocks collide, one of them collides with none
pub collides_none : (before : List Received) (b : Block) → ((a : Block) → has_block before a ≡ true → block_digest a ≡ block_digest b → a ≡ b)
    → find (λ r. collides r.block b) before ≡ None
collides_none [] b apart = refl
collides_none (r ∷ rs) b apart =
    rw (here, collides_none rs b (λ a has. apart a (later a has))) refl
  where
    itself : block_eq r.block r.block ≡ true
    itself = (block_eq_decides r.block r.block).1 refl

    later : (a : Block) → has_block rs a ≡ true → has_block (r ∷ rs) a ≡ true
    later a has = rw has (any (block_eq r.block a))
      where
        any : (x : Bool) → (x || true) ≡ true
        any true = refl
        any false = refl

    reported : digest_eq (block_digest r.block) (block_digest b) ≡ true → block_eq r.block b ≡ true
    reported same =
        (block_eq_decides r.block b).1 (apart r.block (or_left (block_eq r.block r.block) (has_block rs r.block) itself)
        ((digest_eq_decides (block_digest r.block) (block_digest b)).0 same))

    both : (x y : Bool) → (y ≡ true → x ≡ true) → (not x && y) ≡ false
    both true y same = refl
    both false true same = sym (same refl)
    both false false same = refl

    here : collides r.block b ≡ false
    here = both (block_eq r.block b) (digest_eq (block_digest r.block) (block_digest b)) reported

-- the first with a digest, of the blocks and one more
pub first_more : (before : List Received) (r : Received) (d : Digest)
    → first_with (before ++ r ∷ []) d ≡ option_or (first_with before d) (cond (digest_eq (block_digest r.block) d) (Some (place_of r)) None)
first_more before r d =
    rw (find-append (λ x. digest_eq (block_digest x.block) d) before (r ∷ []))
    (mapped (find (λ x. digest_eq (block_digest x.block) d) before) (digest_eq (block_digest r.block) d))
  where
    mapped : (o : Option Received) (here : Bool)
        → option_map place_of (option_or o (cond here (Some r) None)) ≡ option_or (option_map place_of o) (cond here (Some (place_of r)) None)
    mapped None true = refl
    mapped None false = refl
    mapped (Some x) here = refl
