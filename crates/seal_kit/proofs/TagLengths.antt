-- The length of a tag.
use Rattle.std.proofs.Common.{◌≡◌, ℕ, List, length, refl}
use Rattle.sha2.specs.Sha256.{sha256, digest_bytes}
use Rattle.seal_kit.specs.Tags.{tag}

pub tag_long : (replica : ℕ) (bytes : List ℕ) → length (tag replica bytes) ≡ 32
unfolding sha256 digest_bytes
tag_long replica bytes = refl
