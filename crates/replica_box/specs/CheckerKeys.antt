-- The public keys of all replicas, by which a checker checks.
use Rattle.std.specs.Prelude.{ℕ, List}
use Rattle.hss_seal.specs.Any.{any_publics_fit}
use Rattle.node_core.specs.Rows.{Check}
use Rattle.seal_kit.specs.declared.height.Height.{Height}

-- key number i is that of replica i
pub record CheckerKeys : Type 0 where
  pub height : Height
  pub publics : List (List ℕ)

-- which seals fit by these keys
abbrev pub keys_fit : CheckerKeys → Check
keys_fit keys = any_publics_fit keys.height keys.publics
