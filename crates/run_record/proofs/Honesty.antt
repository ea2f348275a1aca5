-- The items of honest replicas, replica by replica.
use Rattle.std.proofs.Common.{◌≡◌, ℕ, ◌+◌, ◌≤◌, List, [], ◌∷◌, ◌++◌, drop, length, Bool, false, refl, ◌∙◌, option_map, arith, inl, inr}
use Rattle.std.specs.Prelude.{nat_lt}
use Rattle.std.specs.Option.{option_to_list}
use Rattle.std.proofs.Math.ListN.{drop_of_length-le}
use Rattle.std.proofs.lemmas.Bool.{cases_Bool}
use Rattle.std.proofs.lemmas.Bool.Decides.{nat_tests}
use Rattle.std.proofs.lemmas.Option.{slice_get_cases}
use Rattle.run_record.specs.Honest.{is_honest, honest_item, honest_items}
use Rattle.quorum_cert.proofs.Dropped.{drop_found}

module _ {X : Type 0} (honest : ℕ → Bool) (xs : List X) where
  -- what is left from a replica on is its item, and what is left from the next one on
  pub honest_walk : (k : ℕ) → honest_items honest k (drop k xs)
      ≡ option_to_list (option_map (λ (x : X). (k, x)) (honest_item honest xs k)) ++ honest_items honest (k + 1) (drop (k + 1) xs)
  honest_walk k = elim (slice_get_cases xs k).1 [
    | inl w ↦ elim (cases_Bool (honest k)) [
      | inl does ↦ rw (drop_found xs k w.0 w.2, w.2, does) refl
      | inr fails ↦ rw (drop_found xs k w.0 w.2, w.2, fails) refl
    ]
    | inr w ↦ let beyond : length xs ≤ k + 1 = omega (arith, w.0) in elim (cases_Bool (honest k)) [
      | inl does ↦ rw (drop_of_length-le xs w.0, drop_of_length-le xs beyond, w.1, does) refl
      | inr fails ↦ rw (drop_of_length-le xs w.0, drop_of_length-le xs beyond, w.1, fails) refl
    ]
  ]

-- nobody is honest from n on
pub honest_after : {X : Type 0} (n : ℕ) (faulty : List ℕ) (k : ℕ) (xs : List X) → n ≤ k → honest_items (is_honest n faulty) k xs ≡ []
honest_after n faulty k [] from = refl
honest_after n faulty k (x ∷ xs) from =
    let none : nat_lt k n ≡ false = grind (arith, nat_tests) in
    rw none (honest_after n faulty (k + 1) xs (omega arith))

pub honest_skip : {X : Type 0} (honest : ℕ → Bool) (xs : List X) (k : ℕ) → honest k ≡ false
    → honest_items honest k (drop k xs) ≡ honest_items honest (k + 1) (drop (k + 1) xs)
honest_skip honest xs k fails = honest_walk honest xs k ∙ rw fails refl
