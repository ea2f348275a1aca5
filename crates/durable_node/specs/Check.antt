-- How bytes show that they are those that were written, and in their place.
use Rattle.std.specs.Prelude.{ℕ, List, ◌++◌, take}
use Rattle.sha2.specs.Sha256.{sha256}

-- the first eight bytes of the SHA-256 digest (FIPS 180-4) of bytes
unfoldable pub check_of : List ℕ → List ℕ
check_of bytes = take 8 (sha256 bytes)

-- The running digest of a log stands for all bytes so far. It starts with that of the header ..
abbrev pub header_digest : List ℕ → List ℕ
header_digest header = sha256 header

-- .. and each record moves it on by its body.
unfoldable pub next_digest : List ℕ → List ℕ → List ℕ
next_digest digest body = sha256 (digest ++ body)
