-- One more member, above those before it.
use Rattle.std.proofs.Common.{◌≡◌, ℕ, ◌+◌, ◌<◌, ◌≤◌, Bool, true, false, List, [], ◌∷◌, ◌++◌, refl, sym, ap, ◌∙◌, arith, inl, inr}
use Rattle.std.specs.Prelude.{◌==◌, ◌&&◌, ◌⊎◌, nat_lt, nat_le}
use Rattle.std.specs.List.{list_all}
use Rattle.std.proofs.lemmas.Bool.{and_parts, and_from, ltb-true, lt-ltb, le-leb, le-ltb}
use Rattle.std.proofs.lemmas.Bool.Decides.{leb_tells, eqb_tells}
use Rattle.std.proofs.lemmas.List.Folds.{list_all-append}
use Rattle.count_set.specs.Sets.{with_replica}
use Rattle.trace_form.specs.Seen.{IsAboveAll}

pub pushed : (r : ℕ) (xs : List ℕ) → list_all (λ m. nat_lt m r) xs ≡ true → with_replica r xs ≡ xs ++ r ∷ []
pushed r [] is = refl
pushed r (x ∷ xs) is =
    let t = and_parts _ _ is in
    let less : x < r = ltb-true x r t.0 in
    let differs : (r == x) ≡ false = elim (eqb_tells r x) [ inl same ↦ absurd (omega (arith, less, same.1)) | inr other ↦ other.0 ] in
    let not_less : nat_lt r x ≡ false = le-ltb r x (omega (arith, less)) in
    rw (not_less, differs) (ap (λ (z : List ℕ). x ∷ z) (pushed r xs t.1))

pub above_one_more : (least r : ℕ) (xs : List ℕ) → IsAboveAll least xs → least ≤ r → IsAboveAll (r + 1) (xs ++ r ∷ [])
above_one_more least r xs above le = λ s.
    list_all-append (λ m. nat_lt m s) xs (r ∷ []) ∙ ap (λ (b : Bool). b && (nat_lt r s && true)) (above s) ∙ by s (leb_tells (r + 1) s)
  where
    and_none : (b : Bool) → (b && false) ≡ false
    and_none true = refl
    and_none false = refl

    by : (s : ℕ) → ((nat_le (r + 1) s ≡ true) × (r + 1 ≤ s)) ⊎ ((nat_le (r + 1) s ≡ false) × (s < r + 1))
        → (nat_le least s && (nat_lt r s && true)) ≡ nat_le (r + 1) s
    by s (inl h) = and_from _ _ (le-leb least s (omega (arith, le, h.1))) (and_from _ _ (lt-ltb r s (omega (arith, h.1))) refl) ∙ sym h.0
    by s (inr h) = ap (λ (b : Bool). nat_le least s && (b && true)) (le-ltb r s (omega (arith, h.1))) ∙ and_none (nat_le least s) ∙ sym h.0
