-- Which seals fit, by the public keys of the replicas.
use Rattle.std.specs.Prelude.{ℕ, List, Bool, false, Option, Some, None, slice_get}
use Rattle.lms_seal.specs.Fits.{fits}

-- under the key, if there is one
abbrev pub fits_under : Option (List ℕ) → List ℕ → List ℕ → Bool
fits_under None bytes seal = false
fits_under (Some public) bytes seal = fits public bytes seal

-- key number i is that of replica i
abbrev pub publics_fit : List (List ℕ) → ℕ → List ℕ → List ℕ → Bool
publics_fit publics replica bytes seal = fits_under (slice_get publics replica) bytes seal
