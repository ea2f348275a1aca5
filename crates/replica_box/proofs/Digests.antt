-- The bytes that name the keys: how many they are.
use Rattle.std.proofs.Common.{◌≡◌, ℕ, List, length, refl}
use Rattle.sha2.specs.Sha256.{sha256, digest_bytes}
use Rattle.seal_kit.specs.declared.height.Height.{Height}
use Rattle.replica_box.specs.Opening.{owner_keys}

pub length_keys : (height : Height) (publics : List (List ℕ)) → length (owner_keys height publics) ≡ 32
unfolding owner_keys sha256 digest_bytes
length_keys height publics = refl
