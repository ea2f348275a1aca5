-- How a call of a source or a sink changes the bytes that contracts see and its fault count.
use Rattle.std.specs.Prelude.{◌≡◌, ◌⊎◌, ℕ, ◌+◌, ◌-◌, ◌^◌, ◌<◌, ◌≤◌, min, List, [], ◌++◌, length, take, drop, Option, IfSome}
use Rattle.std.specs.Option.{option_map}

-- a 64-bit count, incremented unless it is at its maximum
abbrev pub counted : ℕ → ℕ
counted n = min (n + 1) (2 ^ 64 - 1)

-- the count increased in a call, or is at its maximum
abbrev pub Rose : ℕ → ℕ → Type 0
Rose old new = (old < new) ⊎ (new ≡ 2 ^ 64 - 1)

-- A read filled the first k bytes of a buffer. `before` and `after` are the buffer's contents.
pub record Reads (k : ℕ) (before after : List ℕ) (old new : Option (List ℕ)) : Type 0 where
  pub within : k ≤ length before
  -- these are the first k of the bytes that were left, and they are left no more
  pub given : IfSome old (λ left. (k ≤ length left) × (take k after ≡ take k left))
  pub taken : new ≡ option_map (drop k) old
  -- nothing is read only at the end of the input
  pub ended : k ≡ 0 → 0 < length before → IfSome old (λ left. left ≡ [])

-- A write took the first k bytes of a piece.
pub record Writes (k : ℕ) (piece : List ℕ) (old new : Option (List ℕ)) : Type 0 where
  pub within : k ≤ length piece
  pub appended : new ≡ option_map (λ written. written ++ take k piece) old
  pub some : 0 < length piece → 0 < k
