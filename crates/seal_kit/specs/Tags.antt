-- Seals that are digests.
use Rattle.std.specs.Prelude.{ℕ, ◌&&◌, Bool, List, ◌∷◌, nat_lt}
use Rattle.std.specs.Str.{bytes_eq}
use Rattle.sha2.specs.Sha256.{sha256}

-- H(u8str(replica) || bytes)
abbrev pub tag : ℕ → List ℕ → List ℕ
tag replica bytes = sha256 (replica ∷ bytes)

-- the tag of one of n replicas
abbrev pub tag_fits : ℕ → ℕ → List ℕ → List ℕ → Bool
tag_fits n replica bytes seal = (nat_lt replica n && nat_lt replica 256) && bytes_eq seal (tag replica bytes)
