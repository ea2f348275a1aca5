-- What stands before the arrival lists is read back.
use Rattle.std.proofs.Common.{◌≡◌, ℕ, ◌^◌, ◌<◌, ◌≤◌, true, List, [], ◌++◌, length, refl, ap, append_assoc, arith}
use Rattle.std.specs.Prelude.{◌&&◌, nat_lt}
use Rattle.std.specs.Int.{w8, w32, to_be_bytes}
use Rattle.std.specs.List.{list_all}
use Rattle.std.proofs.lemmas.Bool.{and_parts, and_from, ltb-true, lt-ltb, leb-true, le-leb}
use Rattle.std.proofs.lemmas.List.{append-nil}
use Rattle.std.proofs.lemmas.List.Sums.{AllPass-from_list_all, list_all-from_AllPass}
use Rattle.seq_base.specs.Setting.{Parameters, parameters, IsValid}
use Rattle.count_set.proofs.Quorums.{meeting_above_faulty}
use Rattle.wire_view.proofs.Exact.{IsExact, step, known_value, restated, as_format, refit}
use Rattle.wire_view.specs.Reading.{◌>>=◌, give}
use Rattle.trace_form.specs.declared.keys.Form.{Form}
use Rattle.trace_form.specs.declared.opening.Opening.{Opening}
use Rattle.trace_form.specs.declared.opening.Span.{Span}
use Rattle.trace_form.specs.Fitting.{FitFaulty, FitsOpening}
use Rattle.trace_form.specs.Keys.{form_of}
use Rattle.trace_form.specs.Opening.{is_valid, numbers_at, setting_at, span_at, member_at, faulty_at, opening_at}
use Rattle.trace_form.specs.Reading.{number_at}
use Rattle.trace_form.specs.Spelling.{setting_spelling, span_spelling, faulty_spelling, opening_spelling}
use Rattle.trace_form.proofs.Exact.{joined, checked_exact}
use Rattle.trace_form.proofs.FieldExact.{byte_exact, exact16, exact32, short_exact}
use Rattle.trace_form.proofs.Each.{each_exact, flat_texts, fits_apart, fits_both, StandsAfter, pairs_from, from_pairs, no_pairs}
use Rattle.trace_form.proofs.Spans.{FitsSpan, form_exact, span_exact}

-- ---- the setting

record FitsNumbers (s : Parameters) : Type 0 where
  pub n : s.n < 256
  pub f : s.f < 256
  pub p : s.p < 2 ^ 16
  pub q : s.q < 2 ^ 16

numbers_exact : IsExact setting_spelling FitsNumbers numbers_at
unfolding numbers_at setting_spelling step known_value
numbers_exact = restated
    (step (λ (s : Parameters). s.n) byte_exact (λ n.
    step (λ (s : Parameters). s.f) byte_exact (λ f.
    step (λ (s : Parameters). s.p) exact16 (λ p.
    step (λ (s : Parameters). s.q) exact16 (λ q. known_value (parameters n f p q))
    (λ q s h. ap (λ (x : Parameters). x.q) h))
    (λ p s h. ap (λ (x : Parameters). x.p) h.1))
    (λ f s h. ap (λ (x : Parameters). x.f) h.1.1))
    (λ n s h. ap (λ (x : Parameters). x.n) h.1.1.1))
    setting_spelling FitsNumbers
    (λ s. simp (append_assoc, append-nil))
    (λ s h. record { n = h.0; f = h.1.0; p = h.1.1.0; q = h.1.1.1.0 })
    (λ s h. (h.n, (h.f, (h.p, (h.q, refl)))))

valid_from : (s : Parameters) → is_valid s ≡ true → IsValid s
valid_from s is =
    let a = and_parts _ _ is in
    let n = and_parts _ _ a.0 in
    let b = and_parts _ _ a.1 in
    let g = and_parts _ _ b.0 in
    let small = and_parts _ _ g.0 in
    let wide = and_parts _ _ g.1 in
    record {
      replicas = record { some = leb-true _ _ n.0; few = leb-true _ _ n.1 };
      gamma = record { positive = leb-true _ _ small.0; small = leb-true _ _ small.1; above_half = ltb-true _ _ wide.0; at_most_one = leb-true _ _ wide.1 };
      resilience = record { enough = ltb-true _ _ b.1 };
    }

from_valid : (s : Parameters) → IsValid s → is_valid s ≡ true
from_valid s h =
    and_from _ _ (and_from _ _ (le-leb _ _ h.replicas.some) (le-leb _ _ h.replicas.few))
    (and_from _ _
    (and_from _ _ (and_from _ _ (le-leb _ _ h.gamma.positive) (le-leb _ _ h.gamma.small))
    (and_from _ _ (lt-ltb _ _ h.gamma.above_half) (le-leb _ _ h.gamma.at_most_one)))
    (lt-ltb _ _ h.resilience.enough))

numbers_fit : (s : Parameters) → IsValid s → FitsNumbers s
numbers_fit s h = record {
  n = omega (arith, h.replicas.few);
  f = omega (arith, meeting_above_faulty s h, h.replicas.few);
  p = omega (arith, h.gamma.at_most_one, h.gamma.small);
  q = omega (arith, h.gamma.small);
}

setting_exact : IsExact setting_spelling IsValid setting_at
unfolding setting_at
setting_exact = refit (checked_exact is_valid numbers_exact) IsValid (λ s h. valid_from s h.1) (λ s h. (numbers_fit s h, from_valid s h))

-- ---- faulty replicas

abbrev IsAbove : List ℕ → ℕ → Type 0
IsAbove before r = list_all (λ m. nat_lt m r) before ≡ true

member_exact : (n : ℕ) → n ≤ 16 → (before : List ℕ) → IsExact (to_be_bytes w8) (λ r. (r < n) × IsAbove before r) (member_at n before)
unfolding member_at
member_exact n few before = refit (checked_exact (λ r. nat_lt r n && list_all (λ m. nat_lt m r) before) byte_exact) (λ r. (r < n) × IsAbove before r)
    (λ r h. let t = and_parts _ _ h.1 in (ltb-true _ _ t.0, t.1))
    (λ r h. (omega (arith, few, h.0), and_from _ _ (lt-ltb _ _ h.0) h.1))

rises : (before : List ℕ) (r : ℕ) → IsAbove before r → StandsAfter (λ (a b : ℕ). a < b) before r
rises before r is = λ k d less. ltb-true _ _ (AllPass-from_list_all (λ m. nat_lt m r) before is k d less)

risen : (before : List ℕ) (r : ℕ) → StandsAfter (λ (a b : ℕ). a < b) before r → IsAbove before r
risen before r following = list_all-from_AllPass (λ m. nat_lt m r) before (λ k d less. lt-ltb _ _ (following k d less))

faulty_exact : (s : Parameters) → IsValid s → IsExact faulty_spelling (FitFaulty s.n s.f) (faulty_at s)
unfolding faulty_at faulty_spelling step as_format
faulty_exact s valid = restated
    (step length (short_exact s.f (numbers_fit s valid).f)
    (λ count. as_format (each_exact (member_at s.n) (λ before. to_be_bytes w8) (λ before r. (r < s.n) × IsAbove before r)
    (member_exact s.n valid.replicas.few) count))
    (λ count xs h. h.0))
    faulty_spelling (FitFaulty s.n s.f)
    (λ xs. ap (λ (z : List ℕ). to_be_bytes w8 (length xs) ++ z) (flat_texts (to_be_bytes w8) [] xs))
    (λ xs h.
    let parts = fits_apart (λ (r : ℕ). r < s.n) IsAbove [] xs h.1.1 in
    record { few = h.0; below = parts.0; ascending = pairs_from (λ (a b : ℕ). a < b) IsAbove rises [] xs parts.1 (no_pairs (λ (a b : ℕ). a < b)) })
    (λ xs h. (h.few, (refl, fits_both (λ (r : ℕ). r < s.n) IsAbove [] xs h.below (from_pairs (λ (a b : ℕ). a < b) IsAbove risen [] xs h.ascending))))

-- ---- all of it, after the setting

after_setting : Opening → List ℕ
after_setting o = span_spelling o.span ++ (to_be_bytes w32 o.turns ++ (to_be_bytes w32 o.ticks ++ faulty_spelling o.faulty))

record FitsAfter (form : Form) (s : Parameters) (o : Opening) : Type 0 where
  pub setting : o.setting ≡ s
  pub span : FitsSpan form s.n o.span
  pub turns : o.turns < 2 ^ 32
  pub ticks : o.ticks < 2 ^ 32
  pub faulty : FitFaulty s.n s.f o.faulty

abbrev opening : Parameters → Span → ℕ → ℕ → List ℕ → Opening
opening setting span turns ticks faulty = record { setting = setting; span = span; turns = turns; ticks = ticks; faulty = faulty }

after_exact : (form : Form) (s : Parameters) → IsValid s
    → IsExact after_setting (FitsAfter form s) (span_at form s.n >>= λ span. number_at w32 >>= λ turns. number_at w32 >>= λ ticks.
    faulty_at s >>= λ faulty. give (opening s span turns ticks faulty))
unfolding after_setting step known_value
after_exact form s valid = restated
    (step (λ (o : Opening). o.span) (span_exact form s.n) (λ span.
    step (λ (o : Opening). o.turns) exact32 (λ turns.
    step (λ (o : Opening). o.ticks) exact32 (λ ticks.
    step (λ (o : Opening). o.faulty) (faulty_exact s valid) (λ faulty. known_value (opening s span turns ticks faulty))
    (λ faulty o h. ap (λ (x : Opening). x.faulty) h))
    (λ ticks o h. ap (λ (x : Opening). x.ticks) h.1))
    (λ turns o h. ap (λ (x : Opening). x.turns) h.1.1))
    (λ span o h. ap (λ (x : Opening). x.span) h.1.1.1))
    after_setting (FitsAfter form s)
    (λ o. ap (λ (z : List ℕ). span_spelling o.span ++ (to_be_bytes w32 o.turns ++ (to_be_bytes w32 o.ticks ++ z))) (append-nil (faulty_spelling o.faulty)))
    (λ o h. record { setting = ap (λ (x : Opening). x.setting) h.1.1.1.1; span = h.0; turns = h.1.0; ticks = h.1.1.0; faulty = h.1.1.1.0 })
    (λ o h. (h.span, (h.turns, (h.ticks, (h.faulty, ap (λ (x : Parameters). opening x o.span o.turns o.ticks o.faulty) h.setting)))))

pub opening_exact : IsExact opening_spelling FitsOpening opening_at
unfolding opening_at opening_spelling after_setting step as_format
opening_exact = restated
    (step (λ (o : Opening). form_of o.span.keys) form_exact
    (λ form. as_format (joined (λ (o : Opening). o.setting) setting_exact (λ s. after_setting) (FitsAfter form) (after_exact form) (λ s o h. h.setting)))
    (λ form o h. h.1.span.form))
    opening_spelling FitsOpening
    (λ o. simp (append_assoc))
    (λ o h. record { valid = h.1.0; within = h.1.1.span.within; keys = h.1.1.span.keys; turns = h.1.1.turns; ticks = h.1.1.ticks; faulty = h.1.1.faulty })
    (λ o h. (
      tt,
      (
        h.valid,
        record { setting = refl; span = record { form = refl; within = h.within; keys = h.keys }; turns = h.turns; ticks = h.ticks; faulty = h.faulty },
      ),
    ))
