-- What the rules over stored blocks imply for the history of a later store.
use Rattle.std.proofs.Common.{◌≡◌, ℕ, zero, suc, ◌+◌, ◌<◌, List, [], ◌∷◌, Bool, true, false, cond, Option, Some, None, is_some, unwrap_or, refl, sym, ap, ◌∙◌, inl, inr, arith}
use Rattle.std.specs.Prelude.{find, nat_lt, ◌||◌, ◌&&◌}
use Rattle.std.specs.Option.{option_map, option_map_or, option_and_then}
use Rattle.std.proofs.lemmas.Bool.{or_cases, and_parts, ltb-true, eqb-true}
use Rattle.seq_base.specs.declared.digest.Digest.{Digest}
use Rattle.seq_base.specs.declared.block.Block.{Block}
use Rattle.seq_base.specs.Blocks.{first_digest, digest_eq, digest_eq_decides, block_eq, block_eq_decides}
use Rattle.seq_base.proofs.Options.{there, mapped}
use Rattle.block_store.specs.Store.{block_digest, has_digest, block_at, is_stored, view_of}
use Rattle.block_store.specs.Chains.{parent_of, extends, Leads, Extends}
use Rattle.hotstuff_core.specs.History.{Vote, IsAncestor, IsThreeChain}
use Rattle.hotstuff_core.specs.Facts.{MeetsRule}
use Rattle.hotstuff_core.specs.Rules.{State, view_at, is_at, is_safe, moved, is_next, head_if, next_commit}
use Rattle.hotstuff_core.specs.Runs.{lock_after}
use Rattle.hotstuff_core.specs.Deeds.{history_in, vote_for, IsLater}

found_passes : {X : Type 0} (p : X → Bool) (xs : List X) (x : X) → find p xs ≡ Some x → p x ≡ true
found_passes p [] x found = absurd (cc)
found_passes {X} p (y ∷ ys) x found = by (p y) refl found (found_passes p ys x)
  where
    by : (t : Bool) → p y ≡ t → cond t (Some y) (find p ys) ≡ Some x → (find p ys ≡ Some x → p x ≡ true) → p x ≡ true
    by true here is further = let same : y ≡ x = cc in ap p (sym same) ∙ here
    by false elsewhere is further = further is

-- the update where a test allows it
unwrap_cond : (t : Bool) (x d : Digest) → unwrap_or (cond t (Some x) None) d ≡ cond t x d
unwrap_cond true x d = refl
unwrap_cond false x d = refl

-- each block's parent and view, in a store
module _ (store : List Block) where
  pub view_is : (d : Digest) (v : ℕ) → view_of store d ≡ Some v → view_at store d ≡ v
  view_is d v of = ap (λ (o : Option ℕ). unwrap_or o 0) of

  pub stored_if_viewed : (d : Digest) (v : ℕ) → view_of store d ≡ Some v → is_stored store d ≡ true
  stored_if_viewed d v of = by (digest_eq d first_digest) of
    where
      by : (t : Bool) → cond t (Some 0) (option_map (λ b. b.view) (block_at store d)) ≡ Some v → (t || is_some (block_at store d)) ≡ true
      by true is = refl
      by false is = ap is_some (mapped (λ (b : Block). b.view) (block_at store d) v is).1

  viewed : (d : Digest) → is_stored store d ≡ true → (v : ℕ) × (view_of store d ≡ Some v)
  viewed d stored = by (digest_eq d first_digest) stored
    where
      by : (t : Bool) → (t || is_some (block_at store d)) ≡ true → (v : ℕ) × (cond t (Some 0) (option_map (λ b. b.view) (block_at store d)) ≡ Some v)
      by true is = (0, refl)
      by false is = let x = there (block_at store d) is in (x.0.view, ap (option_map (λ (b : Block). b.view)) x.1)

module _ (store later : List Block) (grows : IsLater store later) where
  view_of_later : (d : Digest) (v : ℕ) → view_of store d ≡ Some v → view_of later d ≡ Some v
  view_of_later d v of = by (digest_eq d first_digest) of
    where
      by : (t : Bool) → cond t (Some 0) (option_map (λ b. b.view) (block_at store d)) ≡ Some v
          → cond t (Some 0) (option_map (λ b. b.view) (block_at later d)) ≡ Some v
      by true is = is
      by false is =
          let x = mapped (λ (b : Block). b.view) (block_at store d) v is in
          ap (option_map (λ (b : Block). b.view)) (grows d x.0 x.1) ∙ ap (λ (w : ℕ). Some w) x.2

  view_later : (d : Digest) → is_stored store d ≡ true → view_at later d ≡ view_at store d
  view_later d stored =
      let v = viewed store d stored in
      ap (λ (o : Option ℕ). unwrap_or o 0) (view_of_later d v.0 v.1 ∙ sym v.1)

  pub view_is_later : (d : Digest) (v : ℕ) → view_of store d ≡ Some v → view_at later d ≡ v
  view_is_later d v of = view_is later d v (view_of_later d v of)

  parent_later : (d p : Digest) → parent_of store d ≡ Some p → parent_of later d ≡ Some p
  parent_later d p is =
      let x = mapped (λ (b : Block). b.cert.block) (block_at store d) p is in
      ap (option_map (λ (b : Block). b.cert.block)) (grows d x.0 x.1) ∙ ap (λ (w : Digest). Some w) x.2

  module _ (faulty : ℕ → Bool) (votes : ℕ → List (Vote Digest)) where
    steps_later : (steps : ℕ) (a b : Digest) → Leads store steps a b → IsAncestor (history_in later faulty votes) steps a b
    steps_later zero a b path = path
    steps_later (suc steps) a b path = (path.0, parent_later a path.0 path.1, steps_later steps path.0 b path.2)

    -- A vote for a safe block meets the voting rule.
    pub safe_meets_rule : (s : State) (b : Block) → is_stored store s.lock ≡ true → view_of store b.cert.block ≡ Some b.cert.view
        → block_at later (block_digest b) ≡ Some b → (extends store b.cert.block s.lock ≡ true → Extends store b.cert.block s.lock)
        → is_safe store s b ≡ true → MeetsRule (history_in later faulty votes) (vote_for s b)
    safe_meets_rule s b lock parent stored steps safe = elim (or_cases (nat_lt (view_at store s.lock) b.cert.view) _ safe) [
      | inl above ↦
          let less : view_at store s.lock < b.cert.view = ltb-true (view_at store s.lock) b.cert.view above in
          let higher_parent : view_at later s.lock < view_at later b.cert.block =
          omega (arith, less, view_later s.lock lock, view_is_later b.cert.block b.cert.view parent) in
          inr (b.cert.block, parent_is, higher_parent)
      | inr extends_or_is ↦ elim (or_cases (extends store b.cert.block s.lock) (is_at store s.lock b) extends_or_is) [
        | inl further ↦ let path = steps further in inl (suc path.0, (b.cert.block, parent_is, steps_later path.0 b.cert.block s.lock path.1))
        | inr same ↦ inl (0, by (block_at store s.lock) refl same)
      ]
    ]
      where
        parent_is : parent_of later (block_digest b) ≡ Some b.cert.block
        parent_is = ap (option_map (λ (x : Block). x.cert.block)) stored

        by : (o : Option Block) → block_at store s.lock ≡ o → option_map_or (λ x. block_eq x b) o false ≡ true → block_digest b ≡ s.lock
        by None absent same = absurd (cc)
        by (Some x) found same =
            let is : x ≡ b = (block_eq_decides x b).0 same in
            let own : s.lock ≡ block_digest x = (digest_eq_decides s.lock (block_digest x)).0 (found_passes (has_digest s.lock) store x found) in
            sym (own ∙ ap block_digest is)

    -- The lock after a certificate is seen is the running lock of a history.
    pub lock_is : (lock block : Digest) (v : ℕ) → is_stored store lock ≡ true → view_of store block ≡ Some v
        → ((p : Digest) → parent_of store block ≡ Some p → is_stored store p ≡ true) → parent_of later first_digest ≡ None
        → unwrap_or (moved store lock (parent_of store block)) lock ≡ lock_after (history_in later faulty votes) lock (Some block)
    lock_is lock block v stored of parents none = by (block_at store block) refl
      where
        at_first : block_at store block ≡ None → parent_of later block ≡ None
        at_first absent = elim (or_cases (digest_eq block first_digest) (is_some (block_at store block)) (stored_if_viewed store block v of)) [
          | inl first ↦ ap (parent_of later) ((digest_eq_decides block first_digest).0 first) ∙ none
          | inr found ↦ let x = there (block_at store block) found in absurd (cc (absent, x.1))
        ]

        by : (o : Option Block) → block_at store block ≡ o
            → unwrap_or (moved store lock (parent_of store block)) lock ≡ lock_after (history_in later faulty votes) lock (Some block)
        by None absent =
            let here : parent_of store block ≡ None = ap (option_map (λ (x : Block). x.cert.block)) absent in
            rw (here, at_first absent) refl
        by (Some x) found =
            let p = x.cert.block in
            let here : parent_of store block ≡ Some p = ap (option_map (λ (x : Block). x.cert.block)) found in
            rw (here, parent_later block p here, view_later lock stored, view_later p (parents p here))
            (unwrap_cond (nat_lt (view_at store lock) (view_at store p)) p lock)

    -- A block that is committed is the head of a three-chain that ends with the block seen.
    pub commit_is_head : (s : State) (v : ℕ) (block g : Digest) → view_of store block ≡ Some v
        → ((d p : Digest) → parent_of store d ≡ Some p → is_stored store p ≡ true) → next_commit store v block s ≡ Some g
        → (p : Digest) × IsThreeChain (history_in later faulty votes) g p block
    commit_is_head s v block g of parents commits = by_parent (parent_of store block) refl commits
      where
        by_test : (p head : Digest) → parent_of store block ≡ Some p → parent_of store p ≡ Some head → (t : Bool)
            → (is_next (view_at store p) v && is_next (view_at store head) (view_at store p)) ≡ t
            → moved store s.committed (cond t (Some head) None) ≡ Some g → (p : Digest) × IsThreeChain (history_in later faulty votes) g p block
        by_test p head parent grandparent true next is = by_views (nat_lt (view_at store s.committed) (view_at store head)) is
          where
            by_views : (t : Bool) → cond t (Some head) None ≡ Some g → (p : Digest) × IsThreeChain (history_in later faulty votes) g p block
            by_views true same =
                let head_is : head ≡ g = cc in
                let tests = and_parts (is_next (view_at store p) v) (is_next (view_at store head) (view_at store p)) next in
                let last : v ≡ view_at store p + 1 = eqb-true v (view_at store p + 1) tests.0 in
                let first : view_at store p ≡ view_at store head + 1 = eqb-true (view_at store p) (view_at store head + 1) tests.1 in
                let at_p = view_later p (parents block p parent) in
                let at_head = view_later head (parents p head grandparent) in
                let at_block = view_is_later block v of in (
                  p,
                  rw (← head_is) (record {
                    parent = parent_later p head grandparent;
                    child = parent_later block p parent;
                    next_view = (omega (arith, first, at_p, at_head));
                    last_view = (omega (arith, last, at_p, at_block));
                  }),
                )
            by_views false same = absurd (cc)
        by_test p head parent grandparent false next is = absurd (cc)

        by_head : (p : Digest) → parent_of store block ≡ Some p → (o : Option Digest) → parent_of store p ≡ o
            → moved store s.committed (option_and_then (head_if store v p) o) ≡ Some g → (p : Digest) × IsThreeChain (history_in later faulty votes) g p block
        by_head p parent None grandparent is = absurd (cc)
        by_head p parent (Some head) grandparent is =
            by_test p head parent grandparent (is_next (view_at store p) v && is_next (view_at store head) (view_at store p)) refl is

        by_parent : (o : Option Digest) → parent_of store block ≡ o
            → moved store s.committed (option_and_then (λ p. option_and_then (head_if store v p) (parent_of store p)) o) ≡ Some g
            → (p : Digest) × IsThreeChain (history_in later faulty votes) g p block
        by_parent None parent is = absurd (cc)
        by_parent (Some p) parent is = by_head p parent (parent_of store p) refl is
