-- More on a reader and a spelling that are inverse to each other.
use Rattle.std.proofs.Common.{◌≡◌, ℕ, Bool, true, false, cond, List, ◌++◌, length, Result, Ok, Err, refl, sym, ap, subst, ◌∙◌, append_assoc}
use Rattle.wire_view.proofs.Exact.{IsBytes, IsBytes-after, IsExact, went_on}
use Rattle.wire_view.specs.Reading.{go_on, ◌>>=◌}
use Rattle.trace_form.specs.Reading.{passing, checked}

-- a reader, and then one that is exact only after what fits
pub joined : {A B : Type 0} {text : A → List ℕ} {Fits : A → Type 0} {reads : List ℕ → Result (A × List ℕ) ℕ}
    {next : A → List ℕ → Result (B × List ℕ) ℕ} (part : B → A) (first : IsExact text Fits reads) (after_text : A → B → List ℕ)
    (FitsAfter : A → B → Type 0)
    → ((a : A) → Fits a → IsExact (after_text a) (FitsAfter a) (next a)) → ((a : A) (b : B) → FitsAfter a b → part b ≡ a)
    → IsExact (λ b. text (part b) ++ after_text (part b) b) (λ b. Fits (part b) × FitsAfter (part b) b) (reads >>= next)
joined {A} {B} {text} {Fits} {reads} {next} part first after_text FitsAfter others known = record {
  takes = λ bytes b rest fits e.
      let w = went_on (reads bytes) next (b, rest) e in
      let a = w.0.0 in
      let t = first.takes bytes a w.0.1 fits w.1 in
      let following : IsBytes w.0.1 = IsBytes-after (text a) w.0.1 (subst IsBytes t.0 fits) in
      let u = (others a t.1).takes w.0.1 b rest following w.2 in
      let both : (bytes ≡ (text a ++ after_text a b) ++ rest) × (Fits a × FitsAfter a b) =
      (t.0 ∙ ap (λ (y : List ℕ). text a ++ y) u.0 ∙ sym (append_assoc (text a) (after_text a b) rest), (t.1, u.1)) in
      subst (λ (y : A). (bytes ≡ (text y ++ after_text y b) ++ rest) × (Fits y × FitsAfter y b)) (sym (known a b u.1)) both;
  again = λ b rest h.
      let a = part b in
      ap (λ (y : List ℕ). go_on (reads y) next) (append_assoc (text a) (after_text a b) rest)
      ∙ ap (λ (y : Result (A × List ℕ) ℕ). go_on y next) (first.again a (after_text a b ++ rest) h.0)
      ∙ (others a h.0).again b rest h.1;
}

-- The spelling of what fits is known by another name.
pub respelled : {A : Type 0}
    {text : A → List ℕ} {Fits : A → Type 0} {reads : List ℕ → Result (A × List ℕ) ℕ} (exact : IsExact text Fits reads) (other : A → List ℕ)
    → ((x : A) → Fits x → text x ≡ other x) → IsExact other Fits reads
respelled {A} {text} {Fits} {reads} exact other same = record {
  takes = λ bytes x rest fits e. let t = exact.takes bytes x rest fits e in (t.0 ∙ ap (λ (y : List ℕ). y ++ rest) (same x t.1), t.1);
  again = λ x rest h. ap (λ (y : List ℕ). reads (y ++ rest)) (sym (same x h)) ∙ exact.again x rest h;
}

-- ---- tests

-- a test that did not fail
pub passed : {A : Type 0} (b : Bool) (left : ℕ) (x y : A) → cond b (Ok x) (Err left) ≡ Ok y → (b ≡ true) × (x ≡ y)
passed true left x y e = (refl, cc)
passed false left x y e = absurd cc

-- what is read is tested, whatever the place of the fault
pub checked_exact : {A : Type 0} {text : A → List ℕ} {Fits : A → Type 0} {reads : List ℕ → Result (A × List ℕ) ℕ} (passes : A → Bool)
    (exact : IsExact text Fits reads)
    → IsExact text (λ a. Fits a × (passes a ≡ true)) (checked passes reads)
checked_exact {A} {text} {Fits} {reads} passes exact = record {
  takes = λ bytes x rest fits e.
      let w = went_on (reads bytes) (passing (length bytes) passes) (x, rest) e in
      let g = passed (passes w.0.0) (length bytes) (w.0.0, w.0.1) (x, rest) w.2 in
      let t = exact.takes bytes w.0.0 w.0.1 fits w.1 in
      subst (λ (y : A × List ℕ). (bytes ≡ text y.0 ++ y.1) × (Fits y.0 × (passes y.0 ≡ true))) g.1 (t.0, (t.1, g.0));
  again = λ x rest h. rw (exact.again x rest h.0, h.1) refl;
}
