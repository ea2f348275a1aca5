-- A line by names: its items can be numbers, or what the numbers represent.
use Rattle.std.proofs.Common.{◌≡◌, ℕ, ◌+◌, List, [], ◌∷◌, ◌++◌, map, take, drop, Bool, cond, not, refl, sym, ap, ◌∙◌}
use Rattle.std.specs.Prelude.{All}
use Rattle.std.specs.List.{AllByRecursion, insert, position_or_len}
use Rattle.std.proofs.lemmas.List.{map-append, take-map, drop-map}
use Rattle.std.proofs.lemmas.List.Elements.{recursion_from_All, All-from_recursion, All-cons}
use Rattle.std.proofs.lemmas.List.Sorted.{All-permutation, IsPermutation-insert}
use Rattle.line_up.specs.Line.{put_in, put_in_each, line_of}

map_insert : {X Y : Type 0} (f : X → Y) (xs : List X) (i : ℕ) (x : X) → map f (insert xs i x) ≡ insert (map f xs) i (f x)
map_insert {X} {Y} f xs i x =
    map-append f (take i xs) (x ∷ drop i xs)
    ∙ ap (λ (prefix : List Y). prefix ++ f x ∷ map f (drop i xs)) (sym (take-map f i xs))
    ∙ ap (λ (back : List Y). take i (map f xs) ++ f x ∷ back) (sym (drop-map f i xs))

module _ {X Y : Type 0} (goes_before : X → X → Bool) (other : Y → Y → Bool) (name : X → Y) (P : X → Type 0)
    (same : (x y : X) → P x → P y → goes_before x y ≡ other (name x) (name y)) where
  place_named : (x : X) → P x → (line : List X) → AllByRecursion P line
      → position_or_len (goes_before x) line ≡ position_or_len (other (name x)) (map name line)
  place_named x is [] all = refl
  place_named x is (y ∷ ys) all =
      rw (same x y is all.0) (ap (λ (n : ℕ). cond (not (other (name x) (name y))) (1 + n) 0) (place_named x is ys all.1))

  put_in_named : (line : List X) (x : X) → P x → All P line → map name (put_in goes_before line x) ≡ put_in other (map name line) (name x)
  put_in_named line x is all =
      map_insert name line (position_or_len (goes_before x) line) x
      ∙ ap (λ (at : ℕ). insert (map name line) at (name x)) (place_named x is line (recursion_from_All P line all))

  named_from : (line xs : List X) → All P line → AllByRecursion P xs
      → map name (put_in_each goes_before line xs) ≡ put_in_each other (map name line) (map name xs)
  named_from line [] all each = refl
  named_from line (x ∷ xs) all each =
      named_from (put_in goes_before line x) xs
      (All-permutation P (x ∷ line) (put_in goes_before line x) (IsPermutation-insert line (position_or_len (goes_before x) line) x)
      (All-cons P x line each.0 all)) each.1
      ∙ ap (λ (names : List Y). put_in_each other names (map name xs)) (put_in_named line x each.0 all)

  pub line_named : (xs : List X) → All P xs → map name (line_of goes_before xs) ≡ line_of other (map name xs)
  line_named xs all = named_from [] xs (All-from_recursion P [] tt) (recursion_from_All P xs all)
