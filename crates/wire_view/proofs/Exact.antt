-- A reader and a spelling that are inverse to each other, and how they are joined.
use Rattle.std.proofs.Common.{◌≡◌, ℕ, suc, ◌+◌, ◌-◌, ◌<◌, ◌≤◌, List, [], ◌∷◌, ◌++◌, length, get_or, take, Result, Ok, Err, refl, sym, ap, subst, ◌∙◌, append_assoc, arith}
use Rattle.std.proofs.lemmas.List.{append-nil, length-append, take_at}
use Rattle.wire_view.specs.Reading.{go_on, ◌>>=◌, give, prefix_of}

-- what a slice of bytes holds
abbrev pub IsBytes : List ℕ → Type 0
IsBytes bytes = (i : ℕ) → get_or bytes i 0 < 256

pub IsBytes-after : (text rest : List ℕ) → IsBytes (text ++ rest) → IsBytes rest
IsBytes-after [] rest h = h
IsBytes-after (b ∷ text) rest h = IsBytes-after text rest (λ i. h (suc i))

-- What is taken is so spelled, and what is spelled is taken, whatever follows.
pub record IsExact {A E : Type 0} (text : A → List ℕ) (Fits : A → Type 0) (reads : List ℕ → Result (A × List ℕ) E) : Type 0 where
  pub takes : (bytes : List ℕ) (x : A) (rest : List ℕ) → IsBytes bytes → reads bytes ≡ Ok (x, rest) → (bytes ≡ text x ++ rest) × Fits x
  pub again : (x : A) (rest : List ℕ) → Fits x → reads (text x ++ rest) ≡ Ok (x, rest)

-- the same, with the spelling and what fits to be computed
pub record Format {E : Type 0} (A : Type 0) (reads : List ℕ → Result (A × List ℕ) E) : Type 1 where
  pub text : A → List ℕ
  pub Fits : A → Type 0
  pub takes : (bytes : List ℕ) (x : A) (rest : List ℕ) → IsBytes bytes → reads bytes ≡ Ok (x, rest) → (bytes ≡ text x ++ rest) × Fits x
  pub again : (x : A) (rest : List ℕ) → Fits x → reads (text x ++ rest) ≡ Ok (x, rest)

-- what the first reader took, where both of two succeeded
pub went_on : {A B E : Type 0} (read : Result (A × List ℕ) E) (next : A → List ℕ → Result (B × List ℕ) E) (y : B × List ℕ)
    → go_on read next ≡ Ok y → (x : A × List ℕ) × (read ≡ Ok x) × (next x.0 x.1 ≡ Ok y)
went_on (Ok x) next y e = (x, refl, e)
went_on (Err fault) next y e = absurd cc

abbrev done : {A E : Type 0} → A → Result A E
done x = Ok x

pub ok_is : {A E : Type 0} (x y : A) → done {E = E} x ≡ done y → x ≡ y
ok_is x y e = cc

-- a reader, and then one that knows what was read: part says where in the whole that stands
unfoldable pub step : {A B E : Type 0} {text : A → List ℕ} {Fits : A → Type 0} {reads : List ℕ → Result (A × List ℕ) E}
    {next : A → List ℕ → Result (B × List ℕ) E} (part : B → A) (first : IsExact text Fits reads) (others : (a : A) → Format B (next a))
    → ((a : A) (b : B) → (others a).Fits b → part b ≡ a) → Format B (reads >>= next)
step {A} {B} {E} {text} {Fits} {reads} {next} part first others known = record {
  text = λ b. text (part b) ++ (others (part b)).text b;
  Fits = λ b. Fits (part b) × (others (part b)).Fits b;
  takes = λ bytes b rest fits e.
      let w = went_on (reads bytes) next (b, rest) e in
      let a = w.0.0 in
      let t = first.takes bytes a w.0.1 fits w.1 in
      let following : IsBytes w.0.1 = IsBytes-after (text a) w.0.1 (subst IsBytes t.0 fits) in
      let u = (others a).takes w.0.1 b rest following w.2 in
      let is : part b ≡ a = known a b u.1 in
      let both : (bytes ≡ (text a ++ (others a).text b) ++ rest) × (Fits a × (others a).Fits b) =
      (t.0 ∙ ap (λ (y : List ℕ). text a ++ y) u.0 ∙ sym (append_assoc (text a) ((others a).text b) rest), (t.1, u.1)) in
      subst (λ (y : A). (bytes ≡ (text y ++ (others y).text b) ++ rest) × (Fits y × (others y).Fits b)) (sym is) both;
  again = λ b rest h.
      let a = part b in
      ap (λ (y : List ℕ). go_on (reads y) next) (append_assoc (text a) ((others a).text b) rest)
      ∙ ap (λ (y : Result (A × List ℕ) E). go_on y next) (first.again a ((others a).text b ++ rest) h.0)
      ∙ (others a).again b rest h.1;
}

-- at the end all is known
unfoldable pub known_value : {B E : Type 0} (b : B) → Format B (give {E = E} b)
known_value {B} b = record {
  text = λ c. [];
  Fits = λ c. c ≡ b;
  takes = λ bytes c rest fits e. let x = ok_is (b, bytes) (c, rest) e in (ap (λ (y : B × List ℕ). y.1) x, sym (ap (λ (y : B × List ℕ). y.0) x));
  again = λ c rest h. ap (λ (y : B). Ok (y, rest)) (sym h);
}

-- in other words
pub restated : {A E : Type 0} {reads : List ℕ → Result (A × List ℕ) E} (f : Format A reads) (text : A → List ℕ) (Fits : A → Type 0)
    → ((x : A) → f.text x ≡ text x) → ((x : A) → f.Fits x → Fits x) → ((x : A) → Fits x → f.Fits x) → IsExact text Fits reads
restated {A} {E} {reads} f text Fits same to from = record {
  takes = λ bytes x rest fits e. let t = f.takes bytes x rest fits e in (t.0 ∙ ap (λ (y : List ℕ). y ++ rest) (same x), to x t.1);
  again = λ x rest h. ap (λ (y : List ℕ). reads (y ++ rest)) (sym (same x)) ∙ f.again x rest (from x h);
}

pub refit : {A E : Type 0} {text : A → List ℕ}
    {Fits : A → Type 0} {reads : List ℕ → Result (A × List ℕ) E} (exact : IsExact text Fits reads) (Other : A → Type 0)
    → ((x : A) → Fits x → Other x) → ((x : A) → Other x → Fits x) → IsExact text Other reads
refit exact Other to from = record {
  takes = λ bytes x rest fits e. let t = exact.takes bytes x rest fits e in (t.0, to x t.1);
  again = λ x rest h. exact.again x rest (from x h);
}

unfoldable pub as_format : {A E : Type 0} {text : A → List ℕ} {Fits : A → Type 0} {reads : List ℕ → Result (A × List ℕ) E}
    → IsExact text Fits reads → Format A reads
as_format {A} {E} {text} {Fits} exact = record { text = text; Fits = Fits; takes = exact.takes; again = exact.again }

-- What was taken is taken from its bytes alone.
pub alone : {A E : Type 0} {text : A → List ℕ}
    {Fits : A → Type 0} {reads : List ℕ → Result (A × List ℕ) E} (exact : IsExact text Fits reads) (bytes : List ℕ) (x : A) (rest : List ℕ)
    → IsBytes bytes → reads bytes ≡ Ok (x, rest) → (prefix_of bytes rest ≡ text x) × (reads (text x) ≡ Ok (x, []))
alone {A} {E} {text} {Fits} {reads} exact bytes x rest fits e =
    let t = exact.takes bytes x rest fits e in
    let size : length bytes - length rest ≡ length (text x) = omega (arith, ap length t.0, length-append (text x) rest) in
    let prefix : prefix_of bytes rest ≡ text x = ap (λ (n : ℕ). take n bytes) size ∙ ap (take (length (text x))) t.0
    ∙ take_at (text x) rest (length (text x)) refl in
    (prefix, ap reads (sym (append-nil (text x))) ∙ exact.again x [] t.1)

-- what stands in front, where the bytes are known
pub prefix_by : (whole text rest : List ℕ) → whole ≡ text ++ rest → (length rest ≤ length whole) × (prefix_of whole rest ≡ text)
prefix_by whole text rest e =
    let size : length whole - length rest ≡ length text = omega (arith, ap length e, length-append text rest) in
    (omega (arith, ap length e, length-append text rest), ap (λ (n : ℕ). take n whole) size ∙ ap (take (length text)) e ∙ take_at text rest (length text) refl)

-- the same for what was read, with a byte before it
pub prefix_with : {A E : Type 0} {text : A → List ℕ} {Fits : A → Type 0} {reads : List ℕ → Result (A × List ℕ) E}
    (exact : IsExact text Fits reads) (first : ℕ) (bytes whole : List ℕ) (x : A) (rest : List ℕ)
    → IsBytes bytes → whole ≡ first ∷ bytes → reads bytes ≡ Ok (x, rest) → (length rest ≤ length whole) × (prefix_of whole rest ≡ first ∷ text x)
prefix_with {A} {E} {text} exact first bytes whole x rest fits with_first e =
    prefix_by whole (first ∷ text x) rest (with_first ∙ ap (λ (y : List ℕ). first ∷ y) (exact.takes bytes x rest fits e).0)
