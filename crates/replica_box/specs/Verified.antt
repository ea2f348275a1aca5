-- What a verifier keeps.
use Rattle.std.specs.Prelude.{List, All, Some}
use Rattle.node_core.specs.Rows.{Check}
use Rattle.replica_box.specs.SealCache.{Accepted, IsGood}

-- every seal fits
abbrev pub AreAllGood : Check → List Accepted → Type 0
AreAllGood fits seals = All (λ s. IsGood fits (Some s)) seals
