-- Whether two digests are equal.
use Rattle.std.proofs.Common.{◌≡◌, true, false, inl, inr}
use Rattle.std.specs.Prelude.{◌⊎◌}
use Rattle.std.proofs.lemmas.Bool.{cases_Bool, both_ways, false_from_ne_true}
use Rattle.seq_base.specs.declared.digest.Digest.{Digest}
use Rattle.seq_base.specs.Blocks.{digest_eq, digest_eq_decides}

pub same_true : (a b : Digest) → digest_eq a b ≡ true → a ≡ b
same_true a b = (digest_eq_decides a b).0

pub true_same : (a b : Digest) → a ≡ b → digest_eq a b ≡ true
true_same a b = (digest_eq_decides a b).1

pub false_other : (a b : Digest) → (a ≡ b → ⊥) → digest_eq a b ≡ false
false_other a b other = false_from_ne_true (digest_eq a b) (λ holds. other (same_true a b holds))

pub cases_same : (a b : Digest) → (a ≡ b) ⊎ (a ≡ b → ⊥)
cases_same a b = elim (cases_Bool (digest_eq a b)) [
  | inl holds ↦ inl (same_true a b holds)
  | inr not_so ↦ inr (λ same. both_ways (digest_eq a b) not_so (true_same a b same))
]
