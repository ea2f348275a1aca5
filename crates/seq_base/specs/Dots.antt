-- Texts whose parts are separated by dots.
use Rattle.std.specs.Prelude.{ℕ, ◌≢◌, List}
use Rattle.std.specs.List.{AllByRecursion}

-- 46 is the byte of a dot
abbrev pub HasNoDot : List ℕ → Type 0
HasNoDot text = AllByRecursion (λ byte. byte ≢ 46) text
