-- Which seals of two levels fit, by the public keys of the replicas.
use Rattle.std.specs.Prelude.{ℕ, List, Bool, false, Option, Some, None, slice_get}
use Rattle.hss_seal.specs.Hss.{hss_fits}

-- under the key, if there is one
abbrev pub hss_fits_under : Option (List ℕ) → List ℕ → List ℕ → Bool
hss_fits_under None bytes seal = false
hss_fits_under (Some public) bytes seal = hss_fits public bytes seal

-- key number i is that of replica i
abbrev pub hss_publics_fit : List (List ℕ) → ℕ → List ℕ → List ℕ → Bool
hss_publics_fit publics replica bytes seal = hss_fits_under (slice_get publics replica) bytes seal
