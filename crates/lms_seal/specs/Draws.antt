-- What the keys of replicas are drawn from: one seed s for all replicas, and the number r of the replica.
use Rattle.std.specs.Prelude.{ℕ, List, ◌++◌, take, codes}
use Rattle.std.specs.Int.{w32, w64, to_be_bytes}
use Rattle.sha2.specs.Sha256.{sha256}
use Rattle.seal_kit.specs.declared.height.Height.{Height}
use Rattle.lms_seal.specs.Key.{Key, key_of}

-- H(word || u64str(s) || u32str(r))
abbrev pub drawn_hash : List ℕ → ℕ → ℕ → List ℕ
drawn_hash word s r = sha256 (word ++ to_be_bytes w64 s ++ to_be_bytes w32 r)

-- the identifier and the seed that are drawn for a replica
abbrev pub drawn_id : ℕ → ℕ → List ℕ
drawn_id s r = take 16 (drawn_hash (codes "themis-id") s r)

abbrev pub drawn_seed : ℕ → ℕ → List ℕ
drawn_seed s r = drawn_hash (codes "themis-seed") s r

-- the key that grows from them: of one tree, or of the top tree of two-level HSS
abbrev pub drawn_key : ℕ → ℕ → Height → Key
drawn_key s r height = key_of (drawn_id s r) (drawn_seed s r) height
