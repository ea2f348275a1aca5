-- A key of LMS, as contracts see it, and its seals by number.
use Rattle.std.specs.Prelude.{◌≡◌, ◌⊎◌, ℕ, ◌%◌, ◌^◌, List, length}
use Rattle.seal_kit.specs.declared.height.Height.{Height}
use Rattle.seal_kit.specs.declared.height.Height.TheVariants.{H5, H10, H5H5, H5H10}
use Rattle.lms_seal.specs.Tree.{public_of, signature_of}

pub record Key : Type 0 where
  pub id : List ℕ
  pub seed : List ℕ
  pub levels : ℕ

-- the levels of the trees whose leaves sign messages
abbrev pub levels_of : Height → ℕ
levels_of H5 = 5
levels_of H10 = 10
levels_of H5H5 = 5
levels_of H5H10 = 10

-- the key that grows from an identifier and a seed, with the levels of a height
abbrev pub key_of : List ℕ → List ℕ → Height → Key
key_of id seed height = record { id = id; seed = seed; levels = levels_of height }

-- a key as keys are made: an identifier of 16 bytes, and a tree of height 5 or 10
pub record IsKey (key : Key) : Type 0 where
  pub id : length key.id ≡ 16
  pub levels : (key.levels ≡ 5) ⊎ (key.levels ≡ 10)

unfoldable pub key_public : Key → List ℕ
key_public key = public_of key.id key.seed key.levels

-- the signature of a message with leaf q
unfoldable pub key_signature : Key → ℕ → List ℕ → List ℕ
key_signature key q message = signature_of key.id key.seed key.levels q message

-- the seal of a number: each number below the number of leaves has its own leaf
abbrev pub key_seal : Key → ℕ → List ℕ → List ℕ
key_seal key number message = key_signature key (number % 2 ^ key.levels) message

-- a sealer with one tree
pub record OneTree : Type 0 where
  pub key : Key
  pub replica : ℕ
  pub made : ℕ

-- the sealer before its first seal
abbrev pub one_tree : Key → ℕ → OneTree
one_tree key replica = record { key = key; replica = replica; made = 0 }
