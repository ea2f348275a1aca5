-- Tests as numbers, and the numbers below a bound.
use Rattle.std.proofs.Common.{◌≡◌, ℕ, ◌+◌, List, [], ◌∷◌, ◌++◌, Bool, true, false, cond, ◌||◌, refl, sym, ap, ◌∙◌, arith}
use mathlib.Core.List.{map-id}
use Rattle.std.specs.List.{range_with_len}
use Rattle.std.proofs.lemmas.List.FromFn.{map-range_with_len_more}

-- one where a test holds
abbrev pub point : Bool → ℕ
point b = cond b 1 0

pub or_false : (b : Bool) → (b || false) ≡ b
or_false true = refl
or_false false = refl

pub one_number_more : (k : ℕ) → range_with_len 0 (k + 1) ≡ range_with_len 0 k ++ k ∷ []
one_number_more k =
    sym (map-id _) ∙ map-range_with_len_more (λ j. j) 0 k k (omega arith) ∙ ap (λ l. l ++ k ∷ []) (map-id _)
