-- The digest that names a set of public keys.
use Rattle.std.specs.Prelude.{ℕ, List}
use Rattle.std.specs.List.{concat}
use Rattle.sha2.specs.Sha256.{sha256}

-- the SHA-256 digest of all public keys, one after another
unfoldable pub keys_digest : List (List ℕ) → List ℕ
keys_digest keys = sha256 (concat keys)
