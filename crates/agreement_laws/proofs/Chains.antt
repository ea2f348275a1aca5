-- The chains of blocks that honest replicas stored.
use Rattle.std.proofs.Common.{◌≡◌, ℕ, zero, suc, ◌<◌, ◌≤◌, List, [], ◌∷◌, ◌++◌, Option, Some, None, refl, sym, ap, subst, ◌∙◌, inl, inr, arith, append_assoc}
use Rattle.std.specs.Prelude.{◌⊎◌, Contains}
use Rattle.std.specs.Option.{option_map, option_map_or}
use Rattle.std.proofs.lemmas.Bool.{cond-true}
use Rattle.agreement_laws.proofs.Digests.{cases_same, true_same}
use Rattle.std.proofs.lemmas.Option.{same_Some}
use Rattle.std.proofs.lemmas.List.{append-nil}
use Rattle.seq_base.specs.Setting.{Parameters}
use Rattle.seq_base.specs.Blocks.{first_digest, digest_eq}
use Rattle.agreement_laws.specs.Journals.{Named, first_block, Entry}
use Rattle.agreement_laws.specs.JournalPrefixes.{stored_by, stored, block_at, parent_in, Leads, LeadsTo, following, chain, commit, committed_chain}
use Rattle.agreement_laws.specs.Records.{Record, IsJournalPrefix, IsSoundRecord, known}
use Rattle.agreement_laws.proofs.Lists.{here}
use Rattle.agreement_laws.proofs.Blocks.{parent_parts, parent_within, parent_inside}
use Rattle.agreement_laws.proofs.Prefixes.{commit_cases}
use Rattle.agreement_laws.proofs.Known.{one_known, stored_known}
use Rattle.agreement_laws.specs.Seen.{IsKeptPrefix}
use Rattle.agreement_laws.proofs.StoredPrefixes.{parent_stored, kept_prefix}
use Rattle.std.specs.List.{filter_map}

pub after_none : (n : ℕ) (blocks : List Named) (b : Named) → b.digest ≡ first_digest → following n blocks b ≡ []
after_none zero blocks b is = refl
after_none (suc n) blocks b is =
    ap (λ (o : Option Named). option_map_or (λ (bs : List Named). bs ++ b ∷ []) (option_map (following n blocks) o) [])
    (cond-true (digest_eq b.digest first_digest) None (block_at blocks b.cert.block) (true_same b.digest first_digest is))

pub after_some : (n : ℕ) (blocks : List Named) (b p : Named) → parent_in blocks b ≡ Some p → following (suc n) blocks b ≡ following n blocks p ++ b ∷ []
after_some n blocks b p is = ap (λ (o : Option Named). option_map_or (λ (bs : List Named). bs ++ b ∷ []) (option_map (following n blocks) o) []) is

-- the chain from the stored blocks is that from more blocks with the same parents
module _ (s : Parameters) (prefix : List Entry) (kept : IsKeptPrefix s prefix) (wide : List Named)
    (stays : (b p : Named) → parent_in (stored prefix) b ≡ Some p → parent_in wide b ≡ Some p) where
  pub same_after : (n m : ℕ) (b : Named) → Contains (stored prefix) b → b.view ≤ n → b.view ≤ m → following n (stored prefix) b ≡ following m wide b
  same_after zero m b inside low high = elim (cases_same b.digest first_digest) [
    | inl none ↦ sym (after_none m wide b none)
    | inr some ↦ absurd (omega (arith, (parent_stored s prefix kept b inside some).below, low))
  ]
  same_after (suc n) zero b inside low high = elim (cases_same b.digest first_digest) [
    | inl none ↦ after_none (suc n) (stored prefix) b none
    | inr some ↦ absurd (omega (arith, (parent_stored s prefix kept b inside some).below, high))
  ]
  same_after (suc n) (suc m) b inside low high = elim (cases_same b.digest first_digest) [
    | inl none ↦ after_none (suc n) (stored prefix) b none ∙ sym (after_none (suc m) wide b none)
    | inr some ↦
        let p = parent_stored s prefix kept b inside some in
        after_some n (stored prefix) b p.block p.parent
        ∙ ap (λ (bs : List Named). bs ++ b ∷ []) (same_after n m p.block p.is_stored (omega (arith, p.below, low)) (omega (arith, p.below, high)))
        ∙ sym (after_some m wide b p.block (stays b p.block p.parent))
  ]

pub commit_stored : (s : Parameters) (prefix : List Entry) → Contains (stored prefix) (commit s prefix)
commit_stored s prefix = elim (commit_cases s prefix) [
  | inl same ↦ subst (λ (b : Named). Contains (stored prefix) b) (sym same) (here first_block (filter_map stored_by prefix))
  | inr d ↦ parent_inside (stored prefix) d.middle (commit s prefix) d.parent
]

module _ (s : Parameters) (x : Record) (sound : IsSoundRecord s x) (prefix : List Entry) (t : IsJournalPrefix s x prefix) where
  parent_stays : (b p : Named) → parent_in (stored prefix) b ≡ Some p → parent_in (known s x) b ≡ Some p
  parent_stays = parent_within (known s x) (one_known s x sound.uncollided) (stored prefix) (stored_known s x sound.uncollided prefix t)

  same_known : (n m : ℕ) (b : Named) → Contains (stored prefix) b → b.view ≤ n → b.view ≤ m → following n (stored prefix) b ≡ following m (known s x) b
  same_known = same_after s prefix (kept_prefix s x prefix sound t) (known s x) parent_stays

  -- if a block extends another, its chain continues the other's
  goes_on : (steps n m : ℕ) (a b : Named) → Contains (stored prefix) a → Leads (known s x) steps a b → a.view ≤ n → b.view ≤ m
      → (more : List Named) × (following n (known s x) a ≡ following m (known s x) b ++ more)
  goes_on zero n m a b inside same high low = (
    [],
    sym (same_known n n a inside high high) ∙ same_known n m a inside high (omega (arith, ap (λ (c : Named). c.view) same, low))
        ∙ ap (following m (known s x)) same ∙ sym (append-nil (following m (known s x) b)),
  )
  goes_on (suc steps) n m a b inside (p, parent, path) high low =
      let some = (parent_parts (known s x) a p parent).0 in
      let q = parent_stored s prefix (kept_prefix s x prefix sound t) a inside some in
      let same : q.block ≡ p = same_Some q.block p (sym (parent_stays a q.block q.parent) ∙ parent) in
      let there : Contains (stored prefix) p = subst (λ (c : Named). Contains (stored prefix) c) same q.is_stored in
      let below : p.view < a.view = omega (arith, q.below, ap (λ (c : Named). c.view) same) in
      let rest = goes_on steps a.view m p b there path (omega (arith, below)) low in
      let exact : following n (known s x) a ≡ following (suc a.view) (known s x) a =
      sym (same_known n n a inside high high) ∙ same_known n (suc a.view) a inside high (omega arith) in (
        rest.0 ++ a ∷ [],
        exact ∙ after_some a.view (known s x) a p parent ∙ ap (λ (bs : List Named). bs ++ a ∷ []) rest.1
            ∙ append_assoc (following m (known s x) b) rest.0 (a ∷ []),
      )

  pub chain_known : (b : Named) → Contains (stored prefix) b → chain (stored prefix) b ≡ chain (known s x) b
  chain_known b inside = same_known b.view b.view b inside (omega arith) (omega arith)

module _ (s : Parameters) (x : Record) (sound : IsSoundRecord s x) where
  longer : (prefix other : List Entry) → IsJournalPrefix s x prefix → IsJournalPrefix s x other → LeadsTo (known s x) (commit s prefix) (commit s other)
      → (more : List Named) × (committed_chain s prefix ≡ committed_chain s other ++ more)
  longer prefix other t u (steps, path) =
      let a = commit s prefix in
      let b = commit s other in
      let on = goes_on s x sound prefix t steps a.view b.view a b (commit_stored s prefix) path (omega arith) (omega arith) in (
        on.0,
        chain_known s x sound prefix t a (commit_stored s prefix) ∙ on.1
            ∙ ap (λ (bs : List Named). bs ++ on.0) (sym (chain_known s x sound other u b (commit_stored s other))),
      )

  pub chains_on_one_line : (prefix other : List Entry) → IsJournalPrefix s x prefix → IsJournalPrefix s x other
      → LeadsTo (known s x) (commit s prefix) (commit s other) ⊎ LeadsTo (known s x) (commit s other) (commit s prefix)
      → ((more : List Named) × (committed_chain s prefix ≡ committed_chain s other ++ more))
      ⊎ ((more : List Named) × (committed_chain s other ≡ committed_chain s prefix ++ more))
  chains_on_one_line prefix other t u (inl extends) = inl (longer prefix other t u extends)
  chains_on_one_line prefix other t u (inr extends) = inr (longer other prefix u t extends)
