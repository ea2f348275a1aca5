-- The vertices that walks lead to, as rows of Booleans.
use Rattle.std.specs.Prelude.{ℕ, List, [], Bool, false, slice_index_or}

-- the answer for u and v
abbrev pub reaches_in : List (List Bool) → ℕ → ℕ → Bool
reaches_in reach u v = slice_index_or (slice_index_or reach u []) v false
