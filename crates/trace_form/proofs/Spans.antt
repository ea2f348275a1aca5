-- The form of a trace, and its span, are read back.
use Rattle.std.proofs.Common.{◌≡◌, ℕ, ◌^◌, ◌<◌, ◌≤◌, Bool, true, false, cond, List, [], ◌++◌, length, Some, None, refl, sym, ap, subst, ◌∙◌, append_assoc, arith}
use Rattle.std.specs.Prelude.{◌*◌, ◌==◌, nat_le}
use Rattle.std.specs.Int.{w8, w32, w64, to_be_bytes}
use Rattle.std.specs.List.{flat_map, AllByRecursion}
use Rattle.std.specs.Str.{bytes_eq}
use Rattle.std.proofs.lemmas.Bool.{and_parts, and_from, leb-true, eqb-true}
use Rattle.std.proofs.lemmas.List.{append-nil}
use Rattle.std.proofs.lemmas.Slice.Eq.{bytes_eq-Decides}
use Rattle.seal_kit.specs.Seals.{capacity_of}
use Rattle.seal_kit.specs.declared.height.Height.{Height}
use Rattle.seal_kit.specs.declared.height.Height.TheVariants.{H5, H10, H5H5, H5H10}
use Rattle.wire_view.proofs.Exact.{IsExact, went_on, step, known_value, restated, refit}
use Rattle.trace_form.specs.declared.keys.Form.{Form}
use Rattle.trace_form.specs.declared.keys.Form.TheVariants.{Seeded, Keyed}
use Rattle.trace_form.specs.declared.keys.Keys.{Keys}
use Rattle.trace_form.specs.declared.keys.Keys.TheVariants.{Seed, Public}
use Rattle.trace_form.specs.declared.opening.Span.{Span}
use Rattle.trace_form.specs.Codes.{height_code, height_named}
use Rattle.trace_form.specs.Contents.{span_of}
use Rattle.trace_form.specs.Keys.{magic, form_named, form_at, form_of, key_at, keys_at, FitKeys}
use Rattle.trace_form.specs.Opening.{height_at, has_seals, is_within, any_seeded_at, seals_at, keyed_at, span_at}
use Rattle.trace_form.specs.Reading.{piece_at, found_as, checked}
use Rattle.trace_form.specs.Spelling.{span_spelling}
use Rattle.trace_form.proofs.Exact.{respelled, checked_exact}
use Rattle.trace_form.proofs.FieldExact.{exact32, exact64, piece_exact, coded_exact, named_is}
use Rattle.trace_form.proofs.Parts.{flat_exact}

-- ---- the first bytes

named_first : (first : List ℕ) (form : Form) → form_named first ≡ Some form → first ≡ magic form
named_first first form is = by (bytes_eq first (magic Seeded)) (bytes_eq first (magic Keyed)) refl refl is
  where
    by : (one two : Bool) → bytes_eq first (magic Seeded) ≡ one → bytes_eq first (magic Keyed) ≡ two
        → cond one (Some Seeded) (cond two (Some Keyed) None) ≡ Some form → first ≡ magic form
    by true two e1 e2 same = let form_is : Seeded ≡ form = cc in (bytes_eq-Decides first (magic Seeded)).0 e1 ∙ ap magic form_is
    by false true e1 e2 same = let form_is : Keyed ≡ form = cc in (bytes_eq-Decides first (magic Keyed)).0 e2 ∙ ap magic form_is
    by false false e1 e2 same = absurd cc

first_named : (form : Form) → form_named (magic form) ≡ Some form
first_named Seeded = refl
first_named Keyed = refl

long : (form : Form) → length (magic form) ≡ 8
long Seeded = refl
long Keyed = refl

pub form_exact : IsExact magic (λ form. Unit {0}) form_at
unfolding form_at
form_exact = record {
  takes = λ bytes form rest fits e.
      let w = went_on (piece_at 8 bytes) (λ first. found_as (length bytes) (form_named first)) (form, rest) e in
      let n = named_is (length bytes) (form_named w.0.0) w.0.1 (form, rest) w.2 in
      let t = (piece_exact 8).takes bytes w.0.0 w.0.1 fits w.1 in
      (t.0 ∙ ap (λ (z : List ℕ). z ++ w.0.1) (named_first w.0.0 form n.0) ∙ ap (λ (z : List ℕ). magic form ++ z) n.1, tt);
  again = λ form rest h. rw ((piece_exact 8).again (magic form) rest (long form), first_named form) refl;
}

-- ---- the height

height_exact : IsExact (λ a. to_be_bytes w8 (height_code a)) (λ a. Unit {0}) height_at
unfolding height_at
height_exact = coded_exact height_code height_named coded named_back
  where
    coded : (a : Height) → (height_code a < 256) × (height_named (height_code a) ≡ Some a)
    coded H5 = (omega arith, refl)
    coded H10 = (omega arith, refl)
    coded H5H5 = (omega arith, refl)
    coded H5H10 = (omega arith, refl)

    by : (c : ℕ) (a : Height) (one two three four : Bool) → (c == 1) ≡ one → (c == 2) ≡ two → (c == 3) ≡ three → (c == 4) ≡ four
        → cond one (Some H5) (cond two (Some H10) (cond three (Some H5H5) (cond four (Some H5H10) None))) ≡ Some a → height_code a ≡ c
    by c a true two three four e1 e2 e3 e4 is = let same : H5 ≡ a = cc in ap height_code (sym same) ∙ sym (eqb-true c 1 e1)
    by c a false true three four e1 e2 e3 e4 is = let same : H10 ≡ a = cc in ap height_code (sym same) ∙ sym (eqb-true c 2 e2)
    by c a false false true four e1 e2 e3 e4 is = let same : H5H5 ≡ a = cc in ap height_code (sym same) ∙ sym (eqb-true c 3 e3)
    by c a false false false true e1 e2 e3 e4 is = let same : H5H10 ≡ a = cc in ap height_code (sym same) ∙ sym (eqb-true c 4 e4)
    by c a false false false false e1 e2 e3 e4 is = absurd cc

    named_back : (c : ℕ) (a : Height) → height_named c ≡ Some a → height_code a ≡ c
    named_back c a is = by c a (c == 1) (c == 2) (c == 3) (c == 4) refl refl refl refl is

-- ---- the span

-- what fits the span of a form, of n replicas
pub record FitsSpan (kind : Form) (n : ℕ) (s : Span) : Type 0 where
  pub form : form_of s.keys ≡ kind
  pub within : is_within n s ≡ true
  pub keys : FitKeys n s.keys

few_views : (views : ℕ) (height : Height) → has_seals views height ≡ true → views < 2 ^ 32
few_views views height is =
    let room : 5 * views ≤ capacity_of height =
    leb-true (5 * views) (capacity_of height) (and_parts (nat_le 1 views) (nat_le (5 * views) (capacity_of height)) is).1 in
    let most : capacity_of height ≤ 32768 = at_most height in
    omega (arith, room, most)
  where
    at_most : (height : Height) → capacity_of height ≤ 32768
    at_most H5 = omega arith
    at_most H10 = omega arith
    at_most H5H5 = omega arith
    at_most H5H10 = omega arith

-- ---- with a seed

abbrev seed_in : Keys → ℕ
seed_in (Seed seed) = seed
seed_in (Public keys) = 0

seeded_text : Span → List ℕ
seeded_text s = to_be_bytes w32 s.views ++ to_be_bytes w64 (seed_in s.keys) ++ to_be_bytes w8 (height_code s.height)

record FitsSeeded (s : Span) : Type 0 where
  pub views : s.views < 2 ^ 32
  pub seed : seed_in s.keys < 2 ^ 64
  pub keys : s.keys ≡ Seed (seed_in s.keys)

any_seeded_exact : IsExact seeded_text FitsSeeded any_seeded_at
unfolding any_seeded_at seeded_text step known_value
any_seeded_exact = restated
    (step (λ (s : Span). s.views) exact32 (λ views.
    step (λ (s : Span). seed_in s.keys) exact64 (λ seed.
    step (λ (s : Span). s.height) height_exact (λ height. known_value (span_of views (Seed seed) height))
    (λ height s h. ap (λ (x : Span). x.height) h))
    (λ seed s h. ap (λ (x : Span). seed_in x.keys) h.1))
    (λ views s h. ap (λ (x : Span). x.views) h.1.1))
    seeded_text FitsSeeded
    (λ s. simp (append_assoc, append-nil))
    (λ s h. record { views = h.0; seed = h.1.0; keys = ap (λ (x : Span). x.keys) h.1.1.1 })
    (λ s h. (h.views, (h.seed, (tt, ap (λ (k : Keys). span_of s.views k s.height) h.keys))))

seeded_spelled : (s : Span) → form_of s.keys ≡ Seeded → seeded_text s ≡ span_spelling s
unfolding seeded_text span_spelling
seeded_spelled s is = by s.keys is
  where
    by : (keys : Keys) → form_of keys ≡ Seeded → seeded_text (span_of s.views keys s.height) ≡ span_spelling (span_of s.views keys s.height)
    by (Seed seed) same = append_assoc (to_be_bytes w32 s.views) (to_be_bytes w64 seed) (to_be_bytes w8 (height_code s.height))
    by (Public keys) same = absurd cc

seeded_exact : (n : ℕ) → IsExact span_spelling (FitsSpan Seeded n) (checked (is_within n) any_seeded_at)
seeded_exact n = respelled (refit (checked_exact (is_within n) any_seeded_exact) (FitsSpan Seeded n) to from) span_spelling (λ s h. seeded_spelled s h.form)
  where
    to : (s : Span) → FitsSeeded s × (is_within n s ≡ true) → FitsSpan Seeded n s
    to s h = record { form = ap form_of h.0.keys; within = h.1; keys = subst (FitKeys n) (sym h.0.keys) h.0.seed }

    from : (s : Span) → FitsSpan Seeded n s → FitsSeeded s × (is_within n s ≡ true)
    from s h = (
      record { views = few_views s.views s.height (and_parts _ _ h.within).0; seed = (own s.keys h.form h.keys).0; keys = (own s.keys h.form h.keys).1 },
      h.within,
    )
      where
        own : (keys : Keys) → form_of keys ≡ Seeded → FitKeys n keys → (seed_in keys < 2 ^ 64) × (keys ≡ Seed (seed_in keys))
        own (Seed seed) is fit = (fit, refl)
        own (Public keys) is fit = absurd cc

-- ---- with public keys

abbrev seals_text : ℕ × Height → List ℕ
seals_text s = to_be_bytes w32 s.0 ++ to_be_bytes w8 (height_code s.1)

seals_exact : IsExact seals_text (λ s. s.0 < 2 ^ 32) seals_at
unfolding seals_at step known_value
seals_exact = restated
    (step (λ (s : ℕ × Height). s.0) exact32 (λ views.
    step (λ (s : ℕ × Height). s.1) height_exact (λ height. known_value (views, height))
    (λ height s h. ap (λ (x : ℕ × Height). x.1) h))
    (λ views s h. ap (λ (x : ℕ × Height). x.0) h.1))
    seals_text (λ s. s.0 < 2 ^ 32)
    (λ s. simp (append-nil))
    (λ s h. h.0)
    (λ s h. (h, (tt, refl)))

pub keys_exact : (n : ℕ) → IsExact (flat_map (λ (key : List ℕ). key)) (λ keys. (length keys ≡ n) × AllByRecursion (λ key. length key ≡ 60) keys) (keys_at n)
unfolding keys_at key_at
keys_exact n = flat_exact (piece_exact 60) n

abbrev keys_in : Keys → List (List ℕ)
keys_in (Seed seed) = []
keys_in (Public keys) = keys

keyed_text : Span → List ℕ
keyed_text s = seals_text (s.views, s.height) ++ flat_map (λ (key : List ℕ). key) (keys_in s.keys)

record FitsKeyed (n : ℕ) (s : Span) : Type 0 where
  pub seals : has_seals s.views s.height ≡ true
  pub number : length (keys_in s.keys) ≡ n
  pub each : AllByRecursion (λ key. length key ≡ 60) (keys_in s.keys)
  pub keys : s.keys ≡ Public (keys_in s.keys)

keyed_from_parts : (n : ℕ) → IsExact keyed_text (FitsKeyed n) (keyed_at n)
unfolding keyed_at keyed_text step known_value
keyed_from_parts n = restated
    (step (λ (s : Span). (s.views, s.height)) (checked_exact (λ s. has_seals s.0 s.1) seals_exact) (λ seals.
    step (λ (s : Span). keys_in s.keys) (keys_exact n) (λ keys. known_value (span_of seals.0 (Public keys) seals.1))
    (λ keys s h. ap (λ (x : Span). keys_in x.keys) h))
    (λ seals s h. ap (λ (x : Span). (x.views, x.height)) h.1))
    keyed_text (FitsKeyed n)
    (λ s. simp (append_assoc, append-nil))
    (λ s h. record { seals = h.0.1; number = h.1.0.0; each = h.1.0.1; keys = ap (λ (x : Span). x.keys) h.1.1 })
    (λ s h. ((few_views s.views s.height h.seals, h.seals), ((h.number, h.each), ap (λ (k : Keys). span_of s.views k s.height) h.keys)))

keyed_spelled : (s : Span) → form_of s.keys ≡ Keyed → keyed_text s ≡ span_spelling s
unfolding keyed_text span_spelling
keyed_spelled s is = by s.keys is
  where
    by : (keys : Keys) → form_of keys ≡ Keyed → keyed_text (span_of s.views keys s.height) ≡ span_spelling (span_of s.views keys s.height)
    by (Seed seed) same = absurd cc
    by (Public keys) same = append_assoc (to_be_bytes w32 s.views) (to_be_bytes w8 (height_code s.height)) (flat_map (λ (key : List ℕ). key) keys)

keyed_exact : (n : ℕ) → IsExact span_spelling (FitsSpan Keyed n) (keyed_at n)
keyed_exact n = respelled (refit (keyed_from_parts n) (FitsSpan Keyed n) to from) span_spelling (λ s h. keyed_spelled s h.form)
  where
    to : (s : Span) → FitsKeyed n s → FitsSpan Keyed n s
    to s h = subst (λ (k : Keys). FitsSpan Keyed n (span_of s.views k s.height)) (sym h.keys)
        (record { form = refl; within = and_from _ _ h.seals refl; keys = (h.number, h.each) })

    from : (s : Span) → FitsSpan Keyed n s → FitsKeyed n s
    from s h = let own = parts s.keys h.form h.keys in record { seals = (and_parts _ _ h.within).0; number = own.0; each = own.1.0; keys = own.1.1 }
      where
        parts : (keys : Keys) → form_of keys ≡ Keyed → FitKeys n keys
            → (length (keys_in keys) ≡ n) × (AllByRecursion (λ key. length key ≡ 60) (keys_in keys) × (keys ≡ Public (keys_in keys)))
        parts (Seed seed) is fit = absurd cc
        parts (Public keys) is fit = (fit.0, (fit.1, refl))

pub span_exact : (form : Form) (n : ℕ) → IsExact span_spelling (FitsSpan form n) (span_at form n)
span_exact Seeded n = seeded_exact n
span_exact Keyed n = keyed_exact n
