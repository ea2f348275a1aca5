-- The place of a block in the chain of a stored one.
use Rattle.std.proofs.Common.{◌≡◌, ℕ, zero, suc, ◌≤◌, List, [], ◌∷◌, ◌++◌, refl, sym, ap, subst, ◌∙◌, inl, inr, arith}
use Rattle.std.specs.Prelude.{◌⊎◌, Contains}
use Rattle.seq_base.specs.Blocks.{first_digest}
use Rattle.seq_base.specs.Setting.{Parameters}
use Rattle.agreement_laws.specs.Journals.{Named, Entry}
use Rattle.agreement_laws.specs.JournalPrefixes.{block_of, stored, chain}
use Rattle.agreement_laws.specs.Records.{Record, IsJournalPrefix, IsSoundRecord, known}
use Rattle.agreement_laws.specs.Seen.{IsKeptPrefix}
use Rattle.agreement_laws.specs.Standing.{StandsAfter}
use Rattle.agreement_laws.proofs.Lists.{when_some}
use Rattle.agreement_laws.proofs.Digests.{cases_same}
use Rattle.agreement_laws.proofs.Prefixes.{stored_cases}
use Rattle.agreement_laws.proofs.Known.{one_known, stored_known}
use Rattle.agreement_laws.proofs.StoredPrefixes.{StoredParent, parent_stored}
use Rattle.agreement_laws.proofs.Chains.{after_none, after_some, same_after, chain_known}

module _ {X : Type 0} where
  nothing_there : (before : List X) (b : X) (after : List X) → [] ≡ before ++ b ∷ after → ⊥
  nothing_there [] b after is = (cc)
  nothing_there (x ∷ before) b after is = (cc)

  -- an element of a list is its last one, or comes before it
  split_last : (xs : List X) (a : X) (before : List X) (b : X) (after : List X) → xs ++ a ∷ [] ≡ before ++ b ∷ after
      → ((a ≡ b) × (xs ≡ before)) ⊎ ((more : List X) × (xs ≡ before ++ b ∷ more))
  split_last [] a [] b after is = inl ((cc), refl)
  split_last [] a (y ∷ before) b after is = absurd (nothing_there before b after (cc))
  split_last (x ∷ xs) a [] b after is = let here : x ≡ b = (cc) in inr (xs, ap (λ (z : X). z ∷ xs) here)
  split_last (x ∷ xs) a (y ∷ before) b after is =
      let here : x ≡ y = (cc) in
      elim (split_last xs a before b after (cc)) [
        | inl last ↦ inl (last.0, ap (λ (z : X). z ∷ xs) here ∙ ap (λ (zs : List X). y ∷ zs) last.1)
        | inr rest ↦ inr (rest.0, ap (λ (z : X). z ∷ xs) here ∙ ap (λ (zs : List X). y ∷ zs) rest.1)
      ]

module _ (s : Parameters) (prefix : List Entry) (kept : IsKeptPrefix s prefix) where
  -- a chain ends with its block, after the chain of the parent
  chain_after_parent : (b : Named) → (inside : Contains (stored prefix) b) → (some : b.digest ≡ first_digest → ⊥)
      → chain (stored prefix) b ≡ chain (stored prefix) (parent_stored s prefix kept b inside some).block ++ b ∷ []
  chain_after_parent b inside some =
      let p = parent_stored s prefix kept b inside some in
      let exact = same_after s prefix kept (stored prefix) (λ c q is. is) in
      exact b.view (suc b.view) b inside (omega arith) (omega arith)
      ∙ after_some b.view (stored prefix) b p.block p.parent
      ∙ ap (λ (bs : List Named). bs ++ b ∷ []) (exact b.view p.block.view p.block p.is_stored (omega (arith, p.below)) (omega arith))

  -- the block at a chain's end follows the chain of its parent
  at_end : (b : Named) → Contains (stored prefix) b → (b.digest ≡ first_digest → ⊥) → (p : StoredParent prefix b)
      → StandsAfter prefix (chain (stored prefix) p.block) b
  at_end b inside some p = elim (stored_cases prefix b inside) [
    | inl same ↦ absurd (some (ap (λ (c : Named). c.digest) (sym same)))
    | inr from ↦
        let gives = when_some from.item.is_done (block_of from.item.message) b from.gives in
        record {
          entry = from.item;
          inside = from.inside;
          done = gives.0;
          carries = gives.1;
          parent = p.block;
          is_stored = p.is_stored;
          digest = p.digest;
          view = p.view;
          chain_before = refl;
        }
  ]

  -- a block of a chain is the one at its end, or is in the chain of the parent
  end_or_before : (a : Named) → Contains (stored prefix) a → (before : List Named) (b : Named) (after : List Named)
      → chain (stored prefix) a ≡ before ++ b ∷ after
      → ((p : StoredParent prefix a) (more : List Named) → chain (stored prefix) p.block ≡ before ++ b ∷ more → StandsAfter prefix before b)
      → StandsAfter prefix before b
  end_or_before a inside before b after is further = elim (cases_same a.digest first_digest) [
    | inl none ↦ absurd (nothing_there before b after (sym (after_none a.view (stored prefix) a none) ∙ is))
    | inr some ↦
        let p = parent_stored s prefix kept a inside some in
        elim (split_last (chain (stored prefix) p.block) a before b after (sym (chain_after_parent a inside some) ∙ is)) [
          | inl last ↦ subst (λ (c : Named). StandsAfter prefix before c) last.0
              (subst (λ (bs : List Named). StandsAfter prefix bs a) last.1 (at_end a inside some p))
          | inr rest ↦ further p rest.0 rest.1
        ]
  ]

  in_chain : (n : ℕ) (a : Named) → a.view ≤ n → Contains (stored prefix) a → (before : List Named) (b : Named) (after : List Named)
      → chain (stored prefix) a ≡ before ++ b ∷ after
      → StandsAfter prefix before b
  in_chain zero a low inside before b after is = end_or_before a inside before b after is (λ p more rest. absurd (omega (arith, p.below, low)))
  in_chain (suc n) a low inside before b after is =
      end_or_before a inside before b after is (λ p more rest. in_chain n p.block (omega (arith, p.below, low)) p.is_stored before b more rest)

  pub stands_after : (a : Named) → Contains (stored prefix) a → (before : List Named) (b : Named) (after : List Named)
      → chain (stored prefix) a ≡ before ++ b ∷ after → StandsAfter prefix before b
  stands_after a inside = in_chain a.view a (omega arith) inside

pub one_chain : (s : Parameters) (x : Record) (prefix other : List Entry) (b c : Named) → IsSoundRecord s x → IsJournalPrefix s x prefix
    → IsJournalPrefix s x other → Contains (stored prefix) b → Contains (stored other) c
    → b.digest ≡ c.digest → (b ≡ c) × (chain (stored prefix) b ≡ chain (stored other) c)
one_chain s x prefix other b c sound t u here there same =
    let one : b ≡ c =
    one_known s x sound.uncollided b c (stored_known s x sound.uncollided prefix t b here)
    (stored_known s x sound.uncollided other u c there) same in (
      one,
      chain_known s x sound prefix t b here ∙ ap (chain (known s x)) one ∙ sym (chain_known s x sound other u c there),
    )
