-- Bytes that were read from a source or written to a sink in several calls.
use Rattle.std.specs.Prelude.{◌≡◌, ℕ, ◌≤◌, List, ◌++◌, length, take, drop, Option, IfSome}
use Rattle.std.specs.Option.{option_map}

-- The first n of the bytes that a source had left were read. If it reports its bytes, they are these.
pub record HasRead (n : ℕ) (bytes : List ℕ) (old new : Option (List ℕ)) : Type 0 where
  pub given : IfSome old (λ left. (n ≤ length left) × (bytes ≡ take n left))
  pub taken : new ≡ option_map (drop n) old

-- a sink took these bytes
abbrev pub Took : List ℕ → Option (List ℕ) → Option (List ℕ) → Type 0
Took bytes old new = new ≡ option_map (λ written. written ++ bytes) old

-- a sink took a prefix of them
abbrev pub TookSome : List ℕ → Option (List ℕ) → Option (List ℕ) → Type 0
TookSome bytes old new = (n : ℕ) × (n ≤ length bytes) × Took (take n bytes) old new

-- if a source reports its bytes, none is left
abbrev pub HasEnded : Option (List ℕ) → Type 0
HasEnded left = IfSome left (λ bytes. length bytes ≡ 0)
