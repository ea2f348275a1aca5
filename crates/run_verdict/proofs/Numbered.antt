-- The first answer along a numbered list: where it comes from, and that nothing before it answers.
use Rattle.std.proofs.Common.{◌≡◌, ℕ, suc, zero, ◌+◌, ◌<◌, List, [], ◌∷◌, Bool, Option, Some, None, refl, ap, ◌∙◌, slice_get, arith, inl, inr, if◌then◌else◌}
use Rattle.std.specs.List.{enumerate_from}
use Rattle.std.specs.Option.{option_or}
use Rattle.std.proofs.lemmas.Bool.{cases_Bool}
use Rattle.run_record.specs.Honest.{honest_items}
use Rattle.run_verdict.specs.First.{first_of}

-- the item, with its number from n on, that gave the answer
pub record Found {X Y : Type 0} (f : ℕ × X → Option Y) (n : ℕ) (xs : List X) (y : Y) : Type 0 where
  pub place : ℕ
  pub item : X
  pub is : slice_get xs place ≡ Some item
  pub gives : (m : ℕ) → m ≡ n + place → f (m, item) ≡ Some y
  pub earlier : (j m : ℕ) (x : X) → j < place → slice_get xs j ≡ Some x → m ≡ n + j → f (m, x) ≡ None

pub first_found : {X Y : Type 0} (f : ℕ × X → Option Y) (n : ℕ) (xs : List X) (y : Y) → first_of f (enumerate_from n xs) ≡ Some y → Found f n xs y
first_found f n [] y found = cc
first_found {X} {Y} f n (x ∷ xs) y found = by_answer (f (n, x)) refl (λ rest. first_found f (n + 1) xs y rest)
  where
    at : (m : ℕ) → m ≡ n + 0 → f (m, x) ≡ f (n, x)
    at m is = let same : m ≡ n = omega arith in ap (λ k. f (k, x)) same

    here : f (n, x) ≡ Some y → Found f n (x ∷ xs) y
    here answer = record {
      place = 0;
      item = x;
      is = refl;
      gives = λ m is. at m is ∙ answer;
      earlier = λ j m other below there is. absurd (omega (arith, below));
    }

    later : f (n, x) ≡ None → Found f (n + 1) xs y → Found f n (x ∷ xs) y
    later none rest = record {
      place = suc rest.place;
      item = rest.item;
      is = rest.is;
      gives = λ m is. rest.gives m (omega (arith, is));
      earlier = before;
    }
      where
        before : (j m : ℕ) (other : X) → j < suc rest.place → slice_get (x ∷ xs) j ≡ Some other → m ≡ n + j → f (m, other) ≡ None
        before zero m other below there is = let same : x ≡ other = cc in rw (← same) (at m is ∙ none)
        before (suc j) m other below there is = rest.earlier j m other (omega arith) there (omega arith)

    by_answer : (o : Option Y) → f (n, x) ≡ o → (first_of f (enumerate_from (n + 1) xs) ≡ Some y → Found f (n + 1) xs y) → Found f n (x ∷ xs) y
    by_answer None none next = later none (next (rw none at found))
    by_answer (Some z) answer next = here (answer ∙ (rw answer at found))

pub first_nothing : {X Y : Type 0} (f : ℕ × X → Option Y) (n : ℕ) (xs : List X) → first_of f (enumerate_from n xs) ≡ None
    → (j m : ℕ) (x : X) → slice_get xs j ≡ Some x → m ≡ n + j → f (m, x) ≡ None
first_nothing f n [] none j m x there is = cc
first_nothing {X} {Y} f n (y ∷ ys) none j m x there is = by_place j there is
    (λ i at number. first_nothing f (n + 1) ys (parts (f (n, y)) (first_of f (enumerate_from (n + 1) ys)) none).1 i m x at number)
  where
    parts : (o p : Option Y) → option_or o p ≡ None → (o ≡ None) × (p ≡ None)
    parts None p none = (refl, none)
    parts (Some z) p none = cc

    both : (f (n, y) ≡ None) × (first_of f (enumerate_from (n + 1) ys) ≡ None)
    both = parts (f (n, y)) (first_of f (enumerate_from (n + 1) ys)) none

    by_place : (j : ℕ) → slice_get (y ∷ ys) j ≡ Some x → m ≡ n + j → ((i : ℕ) → slice_get ys i ≡ Some x → m ≡ (n + 1) + i → f (m, x) ≡ None) → f (m, x) ≡ None
    by_place zero there is next = let same : y ≡ x = cc in let number : m ≡ n = omega arith in rw (← same, number) both.0
    by_place (suc j) there is next = next j there (omega arith)

-- only honest replicas answer
abbrev pub honest_answer : {X Y : Type 0} → (ℕ → Bool) → (ℕ × X → Option Y) → ℕ × X → Option Y
honest_answer honest f p = if honest p.0 then f p else None

pub first_honest : {X Y : Type 0} (honest : ℕ → Bool) (f : ℕ × X → Option Y) (n : ℕ) (xs : List X)
    → first_of f (honest_items honest n xs) ≡ first_of (honest_answer honest f) (enumerate_from n xs)
first_honest honest f n [] = refl
first_honest honest f n (x ∷ xs) = elim (cases_Bool (honest n)) [
  | inl does ↦ rw (does, first_honest honest f (n + 1) xs) refl
  | inr fails ↦ rw (fails, first_honest honest f (n + 1) xs) refl
]
