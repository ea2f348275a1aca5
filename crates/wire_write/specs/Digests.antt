-- What identifies a block.
use Rattle.std.specs.Prelude.{ℕ, List}
use Rattle.sha2.specs.Sha256.{sha256}
use Rattle.seq_base.specs.declared.digest.Digest.{Digest}

-- the SHA-256 digest (FIPS 180-4) of bytes
abbrev pub digest_of : List ℕ → Digest
digest_of bytes = record { 0 = sha256 bytes }
