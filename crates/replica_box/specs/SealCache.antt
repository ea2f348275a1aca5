-- What a cache of accepted seals holds.
use Rattle.std.specs.Prelude.{◌≡◌, ℕ, List, Option, IfSome, All, true}
use Rattle.node_core.specs.Rows.{Check}

-- a seal that a checker accepted, with the replica and the statement
pub record Accepted : Type 0 where
  pub replica : ℕ
  pub statement : List ℕ
  pub seal : List ℕ

-- the seal at a place fits, if there is one
abbrev pub IsGood : Check → Option Accepted → Type 0
IsGood fits seal = IfSome seal (λ s. fits s.replica s.statement s.seal ≡ true)

-- every seal fits
abbrev pub AreGood : Check → List (Option Accepted) → Type 0
AreGood fits seals = All (IsGood fits) seals
