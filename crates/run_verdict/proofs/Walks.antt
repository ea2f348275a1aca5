-- Lists taken item by item.
use Rattle.std.proofs.Common.{◌≡◌, ℕ, ◌+◌, ◌≤◌, List, [], ◌∷◌, drop, length, true, Option, Some, None, refl, ◌∙◌, slice_get, arith, inl, inr}
use Rattle.std.specs.Option.{option_or, is_some}
use Rattle.std.proofs.Math.ListN.{drop_of_length-le}
use Rattle.std.proofs.lemmas.Option.{slice_get_cases}
use Rattle.run_verdict.specs.First.{first_of}

pub drop_none : {X : Type 0} (xs : List X) (k : ℕ) → slice_get xs k ≡ None → (drop k xs ≡ []) × (drop (k + 1) xs ≡ [])
drop_none xs k none = elim (slice_get_cases xs k).1 [
  | inl w ↦ let found = w.2 in cc
  | inr w ↦ let beyond : length xs ≤ k + 1 = omega (arith, w.0) in (drop_of_length-le xs w.0, drop_of_length-le xs beyond)
]

-- the steps of a search that goes over what is left: it stops at the first answer
module _ {X Y : Type 0} (f : X → Option Y) (left rest : List X) (whole : Option Y) (so_far : first_of f left ≡ whole) where
  pub first_stop : (x : X) (answer : Option Y) → left ≡ x ∷ rest → answer ≡ f x → is_some answer ≡ true → answer ≡ whole
  first_stop x answer next is some = first_is answer some ∙ rw is (rw next at so_far)
    where
      first_is : (o : Option Y) → is_some o ≡ true → o ≡ option_or o (first_of f rest)
      first_is None some = cc
      first_is (Some y) some = refl

  pub first_past : left ≡ [] → None ≡ whole
  first_past none = rw none at so_far
