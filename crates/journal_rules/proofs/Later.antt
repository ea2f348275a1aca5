-- Whether a block extends another one, found from its chain; and so the test of rule 5.
use Rattle.std.proofs.Common.{◌≡◌, ℕ, zero, suc, ◌<◌, ◌≤◌, List, [], ◌∷◌, Some, sym, ap, subst, ◌∙◌, inl, inr, ◌⊎◌, arith}
use Rattle.std.specs.Prelude.{Contains}
use Rattle.std.proofs.lemmas.List.Elements.{Contains-append_cases, Contains-append_left, Contains-append_right}
use Rattle.seq_base.specs.Blocks.{first_digest}
use Rattle.seq_base.specs.Setting.{Parameters}
use Rattle.agreement_laws.specs.Journals.{Named, first_block, Entry as Plain}
use Rattle.agreement_laws.specs.JournalPrefixes.{stored, parent_in, Leads, LeadsTo, following}
use Rattle.agreement_laws.specs.Seen.{IsKeptPrefix}
use Rattle.agreement_laws.proofs.Blocks.{parent_parts}
use Rattle.agreement_laws.proofs.Chains.{after_none, after_some}
use Rattle.agreement_laws.proofs.Digests.{cases_same}
use Rattle.agreement_laws.proofs.StoredPrefixes.{parent_stored}
use Rattle.agreement_laws.proofs.Lists.{here, here_or_there, none_inside}

module _ (s : Parameters) (prefix : List Plain) (kept : IsKeptPrefix s prefix) where
  pub is_first : (a : Named) → Contains (stored prefix) a → a.digest ≡ first_digest → a ≡ first_block
  is_first a inside same = kept.one_block a first_block inside (here first_block _) same

  -- each stored block extends the first
  pub extends_first : (n : ℕ) (b : Named) → Contains (stored prefix) b → b.view ≤ n → LeadsTo (stored prefix) b first_block
  extends_first zero b inside low = elim (cases_same b.digest first_digest) [
    | inl same ↦ (0, is_first b inside same)
    | inr other ↦ let p = parent_stored s prefix kept b inside other in absurd (omega (arith, p.below, low))
  ]
  extends_first (suc n) b inside low = elim (cases_same b.digest first_digest) [
    | inl same ↦ (0, is_first b inside same)
    | inr other ↦
        let p = parent_stored s prefix kept b inside other in
        let more = extends_first n p.block p.is_stored (omega (arith, p.below, low)) in
        (suc more.0, (p.block, p.parent, more.1))
  ]

  -- a block on the chain of a stored block is stored, and the latter extends it
  pub on_chain : (n : ℕ) (b c : Named) → Contains (stored prefix) b → Contains (following n (stored prefix) b) c
      → Contains (stored prefix) c × LeadsTo (stored prefix) b c
  on_chain zero b c inside on = absurd (none_inside c on)
  on_chain (suc n) b c inside on = elim (cases_same b.digest first_digest) [
    | inl same ↦ absurd (none_inside c (subst (λ (z : List Named). Contains z c) (after_none (suc n) (stored prefix) b same) on))
    | inr other ↦
        let p = parent_stored s prefix kept b inside other in
        elim (Contains-append_cases (following n (stored prefix) p.block) (b ∷ []) c
        (subst (λ (z : List Named). Contains z c) (after_some n (stored prefix) b p.block p.parent) on)) [
          | inl earlier ↦ (let more = on_chain n p.block c p.is_stored earlier in (more.0, (suc more.1.0, (p.block, p.parent, more.1.1))))
          | inr now ↦ elim (here_or_there b [] c now) [
            | inl same ↦ (subst (Contains (stored prefix)) same inside, (0, same))
            | inr never ↦ absurd (none_inside c never)
          ]
        ]
  ]

  -- a stored block extends only the first block, and those on its chain
  pub leads_on : (steps n : ℕ) (b a : Named) → Contains (stored prefix) b → b.view ≤ n → Leads (stored prefix) steps b a
      → (a.digest ≡ first_digest) ⊎ Contains (following n (stored prefix) b) a
  leads_on zero zero b a inside low same = elim (cases_same b.digest first_digest) [
    | inl first ↦ inl (ap (λ (z : Named). z.digest) (sym same) ∙ first)
    | inr other ↦ let p = parent_stored s prefix kept b inside other in absurd (omega (arith, p.below, low))
  ]
  leads_on zero (suc n) b a inside low same = elim (cases_same b.digest first_digest) [
    | inl first ↦ inl (ap (λ (z : Named). z.digest) (sym same) ∙ first)
    | inr other ↦
        let p = parent_stored s prefix kept b inside other in
        inr (subst (λ (z : List Named). Contains z a) (sym (after_some n (stored prefix) b p.block p.parent))
        (Contains-append_right (following n (stored prefix) p.block) (b ∷ []) a (subst (λ (z : Named). Contains (z ∷ []) a) (sym same) (here a []))))
  ]
  leads_on (suc steps) n b a inside low leads =
      let parts = parent_parts (stored prefix) b leads.0 leads.1 in
      let p = parent_stored s prefix kept b inside parts.0 in
      let both : Some p.block ≡ Some leads.0 = sym p.parent ∙ leads.1 in
      let same : p.block ≡ leads.0 = cc in
      further n low p.block p.is_stored p.parent p.below (subst (λ (z : Named). Leads (stored prefix) steps z a) (sym same) leads.2)
      (λ m q in_q low_q on. leads_on steps m q a in_q low_q on)
    where
      further : (n : ℕ) → b.view ≤ n → (p : Named) → Contains (stored prefix) p → parent_in (stored prefix) b ≡ Some p → p.view < b.view
          → Leads (stored prefix) steps p a
          → ((m : ℕ) (q : Named) → Contains (stored prefix) q → q.view ≤ m → Leads (stored prefix) steps q a
          → (a.digest ≡ first_digest) ⊎ Contains (following m (stored prefix) q) a)
          → (a.digest ≡ first_digest) ⊎ Contains (following n (stored prefix) b) a
      further zero low p in_p parent below on again = absurd (omega (arith, below, low))
      further (suc m) low p in_p parent below on again = elim (again m p in_p (omega (arith, below, low)) on) [
        | inl first ↦ inl first
        | inr inside_chain ↦ inr (subst (λ (z : List Named). Contains z a) (sym (after_some m (stored prefix) b p parent))
            (Contains-append_left (following m (stored prefix) p) (b ∷ []) a inside_chain))
      ]
