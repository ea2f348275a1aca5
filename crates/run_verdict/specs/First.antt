-- The first answer along a list, and numbers of places.
use Rattle.std.specs.Prelude.{ℕ, List, [], ◌∷◌, Option, None, min}
use Rattle.std.specs.Option.{option_or}

-- the first answer that f gives of an item
abbrev pub first_of : {X Y : Type 0} → (X → Option Y) → List X → Option Y
first_of f [] = None
first_of f (x ∷ xs) = option_or (f x) (first_of f xs)

-- an entry is reported by its number in the journal, up to the greatest number of 32 bits
abbrev pub counted : ℕ → ℕ
counted entry = min entry 4294967295
