-- Blocks by their digests.
use Rattle.std.proofs.Common.{◌≡◌, List, [], ◌∷◌, Some, None, sym, ap, subst, ◌∙◌, inl, inr}
use Rattle.std.specs.Prelude.{Contains}
use Rattle.std.proofs.lemmas.Bool.{cases_Bool, cond-true, cond-false}
use Rattle.agreement_laws.proofs.Digests.{cases_same, same_true, true_same, false_other}
use Rattle.std.proofs.lemmas.Option.{none-some, same_Some}
use Rattle.seq_base.specs.declared.digest.Digest.{Digest}
use Rattle.seq_base.specs.Blocks.{first_digest, digest_eq}
use Rattle.agreement_laws.specs.Journals.{Named}
use Rattle.agreement_laws.specs.JournalPrefixes.{block_at, parent_in}
use Rattle.agreement_laws.proofs.Lists.{here, there, none_inside, here_or_there}

-- two of these blocks with the same digest are equal
abbrev pub OneADigest : List Named → Type 0
OneADigest blocks = (a b : Named) → Contains blocks a → Contains blocks b → a.digest ≡ b.digest → a ≡ b

pub found_at : (blocks : List Named) (d : Digest) (b : Named) → block_at blocks d ≡ Some b → Contains blocks b × (b.digest ≡ d)
found_at [] d b is = absurd (none-some b is)
found_at (c ∷ blocks) d b is = elim (cases_Bool (digest_eq c.digest d)) [
  | inl is_so ↦
      let same : c ≡ b = same_Some c b (sym (cond-true (digest_eq c.digest d) (Some c) (block_at blocks d) is_so) ∙ is) in
      (subst (λ (z : Named). Contains (c ∷ blocks) z) same (here c blocks), ap (λ (z : Named). z.digest) (sym same) ∙ same_true c.digest d is_so)
  | inr not_so ↦
      let rest = found_at blocks d b (sym (cond-false (digest_eq c.digest d) (Some c) (block_at blocks d) not_so) ∙ is) in
      (there c blocks b rest.0, rest.1)
]

pub at_digest : (blocks : List Named) (b : Named) → Contains blocks b → ((c : Named) → Contains blocks c → c.digest ≡ b.digest → c ≡ b)
    → block_at blocks b.digest ≡ Some b
at_digest [] b inside one = absurd (none_inside b inside)
at_digest (c ∷ blocks) b inside one = elim (cases_same c.digest b.digest) [
  | inl same ↦ cond-true (digest_eq c.digest b.digest) (Some c) (block_at blocks b.digest) (true_same c.digest b.digest same)
      ∙ ap (λ (z : Named). Some z) (one c (here c blocks) same)
  | inr other ↦ cond-false (digest_eq c.digest b.digest) (Some c) (block_at blocks b.digest) (false_other c.digest b.digest other)
      ∙ elim (here_or_there c blocks b inside) [
        | inl same ↦ absurd (other (ap (λ (z : Named). z.digest) same))
        | inr rest ↦ at_digest blocks b rest (λ d further. one d (there c blocks d further))
      ]
]

pub parent_parts : (blocks : List Named) (b p : Named) → parent_in blocks b ≡ Some p → (b.digest ≡ first_digest → ⊥) × (block_at blocks b.cert.block ≡ Some p)
parent_parts blocks b p is = elim (cases_same b.digest first_digest) [
  | inl none ↦
      absurd (none-some p (sym (cond-true (digest_eq b.digest first_digest) None (block_at blocks b.cert.block) (true_same b.digest first_digest none)) ∙ is))
  | inr some ↦ (some, sym (cond-false (digest_eq b.digest first_digest) None (block_at blocks b.cert.block) (false_other b.digest first_digest some)) ∙ is)
]

pub parent_from : (blocks : List Named) (b p : Named) → (b.digest ≡ first_digest → ⊥) → block_at blocks b.cert.block ≡ Some p → parent_in blocks b ≡ Some p
parent_from blocks b p some at = cond-false (digest_eq b.digest first_digest) None (block_at blocks b.cert.block) (false_other b.digest first_digest some) ∙ at

pub parent_inside : (blocks : List Named) (b p : Named) → parent_in blocks b ≡ Some p → Contains blocks p
parent_inside blocks b p is = (found_at blocks b.cert.block p (parent_parts blocks b p is).1).0

module _ (known : List Named) (one : OneADigest known) where
  pub known_at : (b : Named) → Contains known b → block_at known b.digest ≡ Some b
  known_at b inside = at_digest known b inside (λ c there_too same. one c b there_too inside same)

  -- what a part of the blocks shows holds among all
  module _ (part : List Named) (within : (b : Named) → Contains part b → Contains known b) where
    pub at_within : (d : Digest) (b : Named) → block_at part d ≡ Some b → block_at known d ≡ Some b
    at_within d b at =
        let found = found_at part d b at in
        subst (λ (z : Digest). block_at known z ≡ Some b) found.1 (known_at b (within b found.0))

    pub parent_within : (b p : Named) → parent_in part b ≡ Some p → parent_in known b ≡ Some p
    parent_within b p is =
        let parts = parent_parts part b p is in
        parent_from known b p parts.0 (at_within b.cert.block p parts.1)
