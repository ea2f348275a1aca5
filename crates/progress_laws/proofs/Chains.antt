-- A chain of stored blocks of the views 1, 2 and so on, and what a replica stores once it has seen certificates of
-- them.
use Rattle.std.proofs.Common.{◌≡◌, ◌≢◌, ℕ, zero, suc, pred, ◌+◌, ◌<◌, ◌≤◌, List, [], ◌∷◌, ◌++◌, length, Bool, true, false, cond, nat_lt, Option, Some, None, refl, sym, ap, ◌∙◌, inl, inr, arith}
use Rattle.std.specs.Prelude.{slice_get, find, unwrap_or, ◌==◌}
use Rattle.std.proofs.lemmas.Bool.{cases_Bool}
use Rattle.std.proofs.lemmas.Bool.Decides.{nat_tests}
use Rattle.std.proofs.lemmas.List.{nil_from_length}
use Rattle.std.proofs.lemmas.Option.{slice_get_within, same_Some}
use Rattle.seq_base.specs.declared.digest.Digest.{Digest}
use Rattle.seq_base.specs.declared.block.Block.{Block}
use Rattle.seq_base.specs.Blocks.{first_digest}
use Rattle.block_store.specs.Store.{block_digest, has_digest, block_at, is_stored, view_of, clashes, with_block}
use Rattle.block_store.specs.Chains.{parent_of}
use Rattle.hotstuff_core.specs.Rules.{State as Safe, view_at, is_safe, moved, seen_in}
use Rattle.round_rules.proofs.Places.{found_at}
use Rattle.progress_laws.proofs.Items.{get_prefix, get_more}
use Rattle.agreement_laws.proofs.Digests.{false_other, same_true, true_same}

-- ---- lists

-- the one item that passes is found
find_only : {X : Type 0} (p : X → Bool) (xs : List X) (k : ℕ) (x : X) → slice_get xs k ≡ Some x → p x ≡ true
    → ((j : ℕ) (y : X) → slice_get xs j ≡ Some y → p y ≡ true → j ≡ k) → find p xs ≡ Some x
find_only p [] k x found is only = absurd (cc)
find_only p (y ∷ xs) zero x found is only =
    let same : y ≡ x = same_Some y x found in
    let passes : p y ≡ true = ap p same ∙ is in
    rw passes (ap Some same)
find_only p (y ∷ xs) (suc k) x found is only = elim (cases_Bool (p y)) [
  | inl so ↦ absurd (let same : zero ≡ suc k = only zero y refl so in omega (arith, same))
  | inr not ↦ rw not (find_only p xs k x found is (λ j z at passes. let same : suc j ≡ suc k = only (suc j) z at passes in omega (arith, same)))
]

find_none : {X : Type 0} (p : X → Bool) (xs : List X) → ((j : ℕ) (y : X) → slice_get xs j ≡ Some y → p y ≡ false) → find p xs ≡ None
find_none p [] none = refl
find_none p (y ∷ xs) none = rw (none zero y refl) (find_none p xs (λ j z at. none (suc j) z at))

-- ---- chains

abbrev pub digest_in : Option Block → Digest
digest_in None = first_digest
digest_in (Some b) = block_digest b

-- the digest of the block of a view
abbrev pub digest_at : List Block → ℕ → Digest
digest_at bs zero = first_digest
digest_at bs (suc k) = digest_in (slice_get bs k)

-- the blocks of the views from 1, each with a certificate of the one before, all with different digests
pub record IsChain (bs : List Block) : Type 0 where
  pub views : (k : ℕ) (b : Block) → slice_get bs k ≡ Some b → b.view ≡ suc k
  pub certs : (k : ℕ) (b : Block) → slice_get bs k ≡ Some b → b.cert.view ≡ k
  pub parents : (k : ℕ) (b : Block) → slice_get bs k ≡ Some b → b.cert.block ≡ digest_at bs k
  pub above : (k : ℕ) (b : Block) → slice_get bs k ≡ Some b → block_digest b ≢ first_digest
  pub apart : (j k : ℕ) (a b : Block) → slice_get bs j ≡ Some a → slice_get bs k ≡ Some b → block_digest a ≡ block_digest b → j ≡ k

-- the lock and the commit of a replica that voted in a view and has seen the certificates up to a view
abbrev pub safe : List Block → ℕ → ℕ → Safe
safe bs voted high = record { voted = voted; lock = digest_at bs (pred high); committed = digest_at bs (pred (pred high)) }

module _ (bs : List Block) (chain : IsChain bs) where
  pub stored_at : (k : ℕ) (b : Block) → slice_get bs k ≡ Some b → block_at bs (block_digest b) ≡ Some b
  stored_at k b found = find_only (has_digest (block_digest b)) bs k b found (true_same (block_digest b) (block_digest b) refl)
      (λ j y at passes. chain.apart j k y b at found (sym (same_true (block_digest b) (block_digest y) passes)))

  none_first : block_at bs first_digest ≡ None
  none_first = find_none (has_digest first_digest) bs (λ j y at. false_other first_digest (block_digest y) (λ same. chain.above j y at (sym same)))

  pub view_is : (k : ℕ) → k ≤ length bs → view_of bs (digest_at bs k) ≡ Some k
  view_is zero inside = refl
  view_is (suc k) inside =
      let (b, found) = found_at bs k (omega (arith, inside)) in
      rw (found, false_other (block_digest b) first_digest (chain.above k b found), stored_at k b found) (ap Some (chain.views k b found))

  pub view_at_is : (k : ℕ) → k ≤ length bs → view_at bs (digest_at bs k) ≡ k
  view_at_is k inside = rw (view_is k inside)

  pub is_stored_at : (k : ℕ) → k ≤ length bs → is_stored bs (digest_at bs k) ≡ true
  is_stored_at zero inside = refl
  is_stored_at (suc k) inside =
      let (b, found) = found_at bs k (omega (arith, inside)) in
      rw (found, false_other (block_digest b) first_digest (chain.above k b found), stored_at k b found)

  pub parent_is : (k : ℕ) → suc k ≤ length bs → parent_of bs (digest_at bs (suc k)) ≡ Some (digest_at bs k)
  parent_is k inside =
      let (b, found) = found_at bs k (omega (arith, inside)) in
      rw (found, stored_at k b found) (ap Some (chain.parents k b found))

  pub no_parent : parent_of bs (digest_at bs zero) ≡ None
  no_parent = rw none_first

  -- ---- what a certificate changes

  moves : (a b : ℕ) → a ≤ b → b ≤ length bs → unwrap_or (moved bs (digest_at bs a) (Some (digest_at bs b))) (digest_at bs a) ≡ digest_at bs b
  moves a b low inside = rw (view_at_is a (omega (arith, low, inside)), view_at_is b inside) (by (nat_lt a b) refl)
    where
      by : (t : Bool) → nat_lt a b ≡ t → unwrap_or (cond t (Some (digest_at bs b)) None) (digest_at bs a) ≡ digest_at bs b
      by true is = refl
      by false is = (let same : a ≡ b = grind (arith, nat_tests, low) in ap (digest_at bs) same)

  lock_is : (k h : ℕ) → h ≤ k → k ≤ length bs → (voted : ℕ) → (seen_in bs k (digest_at bs k) (safe bs voted h)).lock ≡ digest_at bs (pred k)
  lock_is zero h low inside voted = rw no_parent (let none : h ≡ 0 = omega (arith, low) in rw none)
  lock_is (suc k) h low inside voted = rw (parent_is k inside) (moves (pred h) k (omega (arith, low)) (omega (arith, inside)))

  commit_is : (k h : ℕ) → h ≤ k → k ≤ length bs → (voted : ℕ) → (seen_in bs k (digest_at bs k) (safe bs voted h)).committed ≡ digest_at bs (pred (pred k))
  commit_is zero h low inside voted = rw no_parent (let none : h ≡ 0 = omega (arith, low) in rw none)
  commit_is (suc zero) h low inside voted = rw (parent_is zero inside, no_parent) (let none : pred (pred h) ≡ 0 = omega (arith, low) in rw none)
  commit_is (suc (suc k)) h low inside voted =
      rw (parent_is (suc k) inside, parent_is k (omega (arith, inside)), view_at_is (suc k) (omega (arith, inside)), view_at_is k (omega (arith, inside)))
      (let one : (suc (suc k) == suc k + 1) ≡ true = grind (arith, nat_tests) in
      let two : (suc k == k + 1) ≡ true = grind (arith, nat_tests) in
      rw (one, two) (moves (pred (pred h)) k (omega (arith, low)) (omega (arith, inside))))

  pub seen_is : (k h voted : ℕ) → h ≤ k → k ≤ length bs → seen_in bs k (digest_at bs k) (safe bs voted h) ≡ safe bs voted k
  seen_is k h voted low inside = rw (lock_is k h low inside voted, commit_is k h low inside voted)

  -- a block of the next view may be voted for
  pub is_safe_next : (h voted : ℕ) (b : Block) → h ≤ length bs → b.cert.view ≡ length bs → b.cert.block ≡ digest_at bs (length bs)
      → is_safe bs (safe bs voted h) b ≡ true
  is_safe_next h voted b low view block = by (length bs) refl (nat_lt (view_at bs (digest_at bs (pred h))) b.cert.view) refl
    where
      by : (m : ℕ) → length bs ≡ m → (t : Bool) → nat_lt (view_at bs (digest_at bs (pred h))) b.cert.view ≡ t → is_safe bs (safe bs voted h) b ≡ true
      by m is true less = rw less
      by zero is false less =
          let none : h ≡ 0 = omega (arith, low, is) in
          let empty : bs ≡ [] = nil_from_length bs is in
          rw (less, block, is, none) refl
      by (suc m) is false less =
          let lower : view_at bs (digest_at bs (pred h)) ≡ pred h = view_at_is (pred h) (omega (arith, low)) in
          let never : ⊥ = grind (arith, nat_tests, lower, view, is, low, less) in
          absurd never

-- ---- one more block

-- a block that follows a chain, with a digest that no other has
pub record IsNext (bs : List Block) (b : Block) : Type 0 where
  pub view : b.view ≡ suc (length bs)
  pub cert : b.cert.view ≡ length bs
  pub parent : b.cert.block ≡ digest_at bs (length bs)
  pub above : block_digest b ≢ first_digest
  pub apart : (k : ℕ) (a : Block) → slice_get bs k ≡ Some a → block_digest a ≢ block_digest b

module _ (bs : List Block) (b : Block) (next : IsNext bs b) where
  none_stored : block_at bs (block_digest b) ≡ None
  none_stored = find_none (has_digest (block_digest b)) bs (λ j y at. false_other (block_digest b) (block_digest y) (λ same. next.apart j y at (sym same)))

  pub no_clash : clashes bs (block_digest b) b ≡ false
  no_clash = rw (false_other (block_digest b) first_digest next.above, none_stored)

  pub goes_last : with_block b bs ≡ bs ++ b ∷ []
  goes_last = rw none_stored

  pub digest_stays : (k : ℕ) → k ≤ length bs → digest_at (bs ++ b ∷ []) k ≡ digest_at bs k
  digest_stays zero inside = refl
  digest_stays (suc k) inside = ap digest_in (get_prefix bs (b ∷ []) k (omega (arith, inside)))

  pub safe_stays : (voted high : ℕ) → high ≤ suc (length bs) → safe (bs ++ b ∷ []) voted high ≡ safe bs voted high
  safe_stays voted high low = rw (digest_stays (pred high) (omega (arith, low)), digest_stays (pred (pred high)) (omega (arith, low)))

  pub chain_more : IsChain bs → IsChain (bs ++ b ∷ [])
  chain_more chain = record {
    views = λ k x at. get_more bs b x k (x.view ≡ suc k) at (chain.views k x) (λ is same. rw (← same, is) next.view);
    certs = λ k x at. get_more bs b x k (x.cert.view ≡ k) at (chain.certs k x) (λ is same. rw (← same, is) next.cert);
    parents = λ k x at. get_more bs b x k (x.cert.block ≡ digest_at (bs ++ b ∷ []) k) at
        (λ old. chain.parents k x old ∙ sym (digest_stays k (let inside : k < length bs = slice_get_within bs k x old in omega (arith, inside))))
        (λ is same. rw (← same, is) (next.parent ∙ sym (digest_stays (length bs) (omega arith))));
    above = λ k x at. get_more bs b x k (block_digest x ≢ first_digest) at (chain.above k x) (λ is same. rw (← same) next.above);
    apart = λ j k x y at_x at_y same. get_more bs b x j (j ≡ k) at_x
        (λ old_x. get_more bs b y k (j ≡ k) at_y (λ old_y. chain.apart j k x y old_x old_y same)
        (λ is is_y. absurd (next.apart j x old_x (same ∙ ap block_digest (sym is_y)))))
        (λ is is_x. get_more bs b y k (j ≡ k) at_y (λ old_y. absurd (next.apart k y old_y (sym same ∙ ap block_digest (sym is_x))))
        (λ other is_y. is ∙ sym other));
  }
