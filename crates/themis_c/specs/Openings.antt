-- How a replica is opened for C, and why it is not.
use Rattle.std.specs.Prelude.{◌≡◌, ◌≢◌, ◌⊎◌, ◌≤◌, ◌<◌, ◌*◌, ℕ, List, [], length, take, drop, false, Some, slice_get}
use Rattle.intake.specs.Desk.{opening}
use Rattle.hss_seal.specs.Any.{any_gives, any_publics_fit, any_sealer}
use Rattle.node_core.specs.Runs.{opening_state}
use Rattle.durable_node.specs.Header.{HasOwner, IsBadIn, IsOwn}
use Rattle.seal_kit.specs.Seals.{capacity_of}
use Rattle.seal_kit.specs.declared.height.Height.{Height}
use Rattle.seq_base.specs.Setting.{Parameters}
use Rattle.replica_box.specs.Opening.{CanOpen, HasOpened, HasPlace, IsDigestOf, key_of_secret, own_header}
use Rattle.replica_box.specs.Seats.{Seat, fits_of, gives_of}
use Rattle.replica_box.specs.declared.fault.OpenFault.{OpenFault}
use Rattle.replica_box.specs.declared.fault.OpenFault.TheVariants.{Number, Views, Count, Secret, NoHeader, OtherLog, Corrupt, NoMemory}
use Rattle.themis_c.specs.declared.TheConstants.{OK, BAD_SETTING, BAD_HEIGHT, BAD_NUMBER, FEW_SEALS, KEY_COUNT, WRONG_SECRET, CORRUPT_LOG, NO_HEADER, OTHER_LOG, NO_MEMORY}

-- a secret is an identifier of 16 bytes and a seed of 32
abbrev pub id_of : List ℕ → List ℕ
id_of secret = take 16 secret

abbrev pub seed_of : List ℕ → List ℕ
seed_of secret = drop 16 secret

-- the statuses of an opening
abbrev pub IsOpenStatus : ℕ → Type 0
IsOpenStatus status = (status ≡ OK) ⊎ (status ≡ NO_MEMORY) ⊎ (status ≡ BAD_SETTING) ⊎ (status ≡ BAD_HEIGHT) ⊎ (status ≡ BAD_NUMBER)
    ⊎ (status ≡ FEW_SEALS) ⊎ (status ≡ KEY_COUNT)
    ⊎ (status ≡ WRONG_SECRET) ⊎ (status ≡ NO_HEADER) ⊎ (status ≡ OTHER_LOG) ⊎ (status ≡ CORRUPT_LOG)

-- The replica is number me of this setting, with this secret, and stands where the log leads.
pub record IsOpenedAs (s : Parameters) (views me : ℕ) (height : Height) (secret : List ℕ) (publics : List (List ℕ)) (log : List ℕ)
    (used : ℕ) (seat : Seat) : Type 0 where
  pub can : CanOpen s.n views me (id_of secret) (seed_of secret) height publics
  pub opened : HasOpened (any_publics_fit height publics) (any_gives (any_sealer (id_of secret) (seed_of secret) height me))
      (opening_state s views me (capacity_of height)) seat.header log used seat.node.state
  pub digest : IsDigestOf seat.header log seat.digest
  pub header : seat.header ≡ own_header s views me height publics
  pub fits : fits_of seat ≡ any_publics_fit height publics
  pub gives : gives_of seat ≡ any_gives (any_sealer (id_of secret) (seed_of secret) height me)
  pub idle : (seat.ready ≡ []) × (seat.sealed ≡ []) × (seat.sends ≡ [])
  pub desk : seat.desk ≡ opening s.n s.f me
  pub running : seat.node.halted ≡ false

-- What a status implies where the height is known: its own cause, and that none before it holds. NO_MEMORY stands in for none of
-- the first three. The place that is written is that of the corrupt record.
pub record HasCause (status : ℕ) (s : Parameters) (views me : ℕ) (height : Height) (secret : List ℕ) (publics : List (List ℕ))
    (log : List ℕ) (place : ℕ) : Type 0 where
  pub number : status ≡ BAD_NUMBER → s.n ≤ me
  pub seals : status ≡ FEW_SEALS → (me < s.n) × (capacity_of height < 5 * views)
  pub count : status ≡ KEY_COUNT → (me < s.n) × (5 * views ≤ capacity_of height) × (length publics ≢ s.n)
  pub other_secret : status ≡ WRONG_SECRET
      → HasPlace s.n views me height publics × (slice_get publics me ≢ Some (key_of_secret (id_of secret) (seed_of secret) height))
  pub no_header : status ≡ NO_HEADER → CanOpen s.n views me (id_of secret) (seed_of secret) height publics
      × (¬ IsOwn (own_header s views me height publics) log) × (¬ HasOwner log)
  pub other_log : status ≡ OTHER_LOG → CanOpen s.n views me (id_of secret) (seed_of secret) height publics
      × (¬ IsOwn (own_header s views me height publics) log) × HasOwner log
  pub corrupt : status ≡ CORRUPT_LOG
      → CanOpen s.n views me (id_of secret) (seed_of secret) height publics × IsBadIn (own_header s views me height publics) log place
  pub no_memory : status ≡ NO_MEMORY → HasPlace s.n views me height publics

-- the status of a fault
abbrev pub status_of : OpenFault → ℕ
status_of Number = BAD_NUMBER
status_of Views = FEW_SEALS
status_of Count = KEY_COUNT
status_of Secret = WRONG_SECRET
status_of NoHeader = NO_HEADER
status_of OtherLog = OTHER_LOG
status_of (Corrupt at) = CORRUPT_LOG
status_of NoMemory = NO_MEMORY

-- what is written as the place
abbrev pub place_of : OpenFault → ℕ → ℕ
place_of Number used = used
place_of Views used = used
place_of Count used = used
place_of Secret used = used
place_of NoHeader used = used
place_of OtherLog used = used
place_of (Corrupt at) used = at
place_of NoMemory used = used
