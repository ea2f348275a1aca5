-- Lengths of concatenated texts.
use Rattle.std.proofs.Common.{◌≡◌, ◌<◌, ◌≤◌, ◌+◌, ℕ, List, [], ◌∷◌, ◌++◌, length, arith}
use Rattle.std.specs.List.{AllByRecursion, flat_map}
use Rattle.std.proofs.lemmas.List.{length-append}

pub of_first : {X : Type 0} (xs ys : List X) → length xs ≤ length (xs ++ ys)
of_first xs ys = let size : length (xs ++ ys) ≡ length xs + length ys = length-append xs ys in omega (arith, size)

pub of_rest : {X : Type 0} (xs ys : List X) → length ys ≤ length (xs ++ ys)
of_rest xs ys = let size : length (xs ++ ys) ≡ length xs + length ys = length-append xs ys in omega (arith, size)

module _ {X : Type 0} (text : X → List ℕ) where
  -- There are no more items than bytes, if each item has a byte.
  pub no_more : ((x : X) → 1 ≤ length (text x)) → (xs : List X) → length xs ≤ length (flat_map text xs)
  no_more some [] = omega arith
  no_more some (x ∷ xs) =
      let size : length (text x ++ flat_map text xs) ≡ length (text x) + length (flat_map text xs) = length-append (text x) (flat_map text xs) in
      omega (arith, size, some x, no_more some xs)

  -- the text of each is no longer than all together
  pub each_short : (most : ℕ) (xs : List X) → length (flat_map text xs) < most → AllByRecursion (λ x. length (text x) < most) xs
  each_short most [] short = tt
  each_short most (x ∷ xs) short = (
    omega (arith, of_first (text x) (flat_map text xs), short),
    each_short most xs (omega (arith, of_rest (text x) (flat_map text xs), short)),
  )

pub weaker : {X : Type 0} (P Q : X → Type 0) → ((x : X) → P x → Q x) → (xs : List X) → AllByRecursion P xs → AllByRecursion Q xs
weaker P Q so [] all = tt
weaker P Q so (x ∷ xs) all = (so x all.0, weaker P Q so xs all.1)
