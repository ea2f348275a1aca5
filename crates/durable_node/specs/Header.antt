-- The header of a log, which names its owner. It precedes the records.
use Rattle.std.specs.Prelude.{◌≡◌, ◌⊎◌, ℕ, ◌^◌, ◌-◌, ◌<◌, ◌≤◌, List, [], ◌∷◌, ◌++◌, length, take, drop, codes}
use Rattle.std.specs.List.{flat_map, AllByRecursion}
use Rattle.std.specs.Int.{w32, to_be_bytes}
use Rattle.seal_kit.specs.declared.height.Height.{Height}
use Rattle.seal_kit.specs.declared.height.Height.TheVariants.{H5, H10, H5H5, H5H10}
use Rattle.seq_base.specs.Setting.{Parameters}
use Rattle.durable_node.specs.Check.{check_of, header_digest}
use Rattle.durable_node.specs.Log.{IsBadAt}

-- the number of a height: a tree of 5 or of 10 levels, or one of 5 over lower ones of 5 or of 10
abbrev pub height_number : Height → ℕ
height_number H5 = 5
height_number H10 = 10
height_number H5H5 = 505
height_number H5H10 = 510

-- the numbers of an owner, in the order of the header
abbrev pub numbers_of : Parameters → ℕ → ℕ → ℕ → List ℕ
numbers_of s views me height = s.n ∷ s.f ∷ s.p ∷ s.q ∷ views ∷ me ∷ height ∷ []

-- the owner: its setting, its views, its replica, the height of all keys, and 32 bytes that name the public keys
unfoldable pub owner_bytes : Parameters → ℕ → ℕ → ℕ → List ℕ → List ℕ
owner_bytes s views me height keys = codes "THEMISL2" ++ (flat_map (to_be_bytes w32) (numbers_of s views me height) ++ keys)

-- the owner, followed by a check of its bytes
unfoldable pub header_of : Parameters → ℕ → ℕ → ℕ → List ℕ → List ℕ
header_of s views me height keys = owner_bytes s views me height keys ++ check_of (owner_bytes s views me height keys)

-- its numbers fit their fields
abbrev pub AreNarrow : Parameters → ℕ → ℕ → ℕ → Type 0
AreNarrow s views me height = AllByRecursion (λ number. number < 2 ^ 32) (numbers_of s views me height)

-- an owner whose header has 76 bytes
pub record FitsHeader (s : Parameters) (views me height : ℕ) (keys : List ℕ) : Type 0 where
  pub numbers : AreNarrow s views me height
  pub size : length keys ≡ 32

-- ---- logs

-- the bytes after the header
abbrev pub records_in : List ℕ → List ℕ
records_in log = drop 76 log

-- the log has this header
abbrev pub HasHeader : List ℕ → List ℕ → Type 0
HasHeader header log = take 76 log ≡ header

-- the log ends within this header: it is new, or a crash left a part of the header
abbrev pub IsTorn : List ℕ → List ℕ → Type 0
IsTorn header log = (length log < 76) × (log ≡ take (length log) header)

-- the log of the owner with this header
abbrev pub IsOwn : List ℕ → List ℕ → Type 0
IsOwn header log = HasHeader header log ⊎ IsTorn header log

-- the log has the header of some owner
pub record HasOwner (log : List ℕ) : Type 0 where
  pub size : 76 ≤ length log
  pub mark : take 8 log ≡ codes "THEMISL2"
  pub check : take 8 (drop 68 log) ≡ check_of (take 68 log)

-- that owner
pub record IsHeaded (log : List ℕ) : Type 0 where
  pub setting : Parameters
  pub views : ℕ
  pub replica : ℕ
  pub height : ℕ
  pub keys : List ℕ
  pub fits : FitsHeader setting views replica height keys
  pub header : HasHeader (header_of setting views replica height keys) log

-- at this byte of the log, counted from its first, is a corrupt record
pub record IsBadIn (header log : List ℕ) (at : ℕ) : Type 0 where
  pub own : HasHeader header log
  pub following : 76 ≤ at
  pub bad : IsBadAt (header_digest header) (records_in log) (at - 76)

-- the log is the owner's own, and has no corrupt record
pub record IsIntact (header log : List ℕ) : Type 0 where
  pub own : IsOwn header log
  pub none_bad : (at : ℕ) → ¬ IsBadIn header log at
