-- What the trees of a two-level key grow from.
use Rattle.std.specs.Prelude.{ℕ, List, ◌++◌, take, codes}
use Rattle.std.specs.Int.{w32, w64, to_be_bytes}
use Rattle.sha2.specs.Sha256.{sha256}
use Rattle.seal_kit.specs.declared.height.Height.{Height}
use Rattle.seal_kit.specs.declared.height.Height.TheVariants.{H5}
use Rattle.lms_seal.specs.Draws.{drawn_id, drawn_seed}
use Rattle.lms_seal.specs.Key.{Key, key_of}

pub record Seeds : Type 0 where
  -- the identifier and the seed of the top tree
  pub id : List ℕ
  pub seed : List ℕ
  -- the bytes that the lower trees are derived from
  pub lower : List ℕ

-- those of 48 random bytes: 16 of the identifier, and 32 of the seed
abbrev pub seeds_of : List ℕ → List ℕ → Seeds
seeds_of id seed = record { id = id; seed = seed; lower = id ++ seed }

-- those that are drawn for replica r from one seed s for all replicas
abbrev pub drawn_seeds : ℕ → ℕ → Seeds
drawn_seeds s r = record { id = drawn_id s r; seed = drawn_seed s r; lower = to_be_bytes w64 s ++ to_be_bytes w32 r }

-- the top tree
abbrev pub top_of : Seeds → Key
top_of seeds = key_of seeds.id seeds.seed H5

-- H(word || bytes || u32str(t))
abbrev pub lower_hash : List ℕ → List ℕ → ℕ → List ℕ
lower_hash word bytes t = sha256 ((word ++ bytes) ++ to_be_bytes w32 t)

-- lower tree t, whose identifier and seed are derived
abbrev pub lower_key : Seeds → Height → ℕ → Key
lower_key seeds height t = key_of (take 16 (lower_hash (codes "themis-hss-id") seeds.lower t)) (lower_hash (codes "themis-hss-seed") seeds.lower t) height
