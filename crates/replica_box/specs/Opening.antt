-- How a replica is opened from the bytes of its log, and why it is not.
use Rattle.std.specs.Prelude.{◌≡◌, ◌≢◌, ◌+◌, ◌-◌, ◌≤◌, ◌<◌, ◌*◌, ℕ, List, [], ◌++◌, length, take, Some, slice_get}
use Rattle.std.specs.Int.{w32, to_be_bytes}
use Rattle.std.specs.List.{concat}
use Rattle.sha2.specs.Sha256.{sha256}
use Rattle.hss_seal.specs.Any.{any_public, any_sealer}
use Rattle.node_core.specs.declared.event.Event.{Event}
use Rattle.node_core.specs.Rows.{Check}
use Rattle.node_core.specs.Runs.{state_after}
use Rattle.node_core.specs.State.{State}
use Rattle.node_core.specs.Reported.{Gives}
use Rattle.durable_node.specs.Check.{header_digest}
use Rattle.durable_node.specs.Header.{HasHeader, HasOwner, IsBadIn, IsIntact, IsOwn, IsTorn, header_of, height_number, records_in}
use Rattle.durable_node.specs.Incarnations.{begun_with}
use Rattle.durable_node.specs.Log.{IsBadAt, IsWholePrefix, LogOf, NoneBad, log_digest}
use Rattle.seal_kit.specs.Seals.{capacity_of}
use Rattle.seal_kit.specs.declared.height.Height.{Height}
use Rattle.seq_base.specs.Setting.{Parameters}
use Rattle.replica_box.specs.Hosting.{HasLogged}
use Rattle.replica_box.specs.declared.fault.OpenFault.{OpenFault}
use Rattle.replica_box.specs.declared.fault.OpenFault.TheVariants.{Number, Views, Count, Secret, NoHeader, OtherLog, Corrupt, NoMemory}

-- The 32 bytes that name the keys in a header: the SHA-256 digest of the number of their height, in four bytes, and all public
-- keys, one after another.
unfoldable pub owner_keys : Height → List (List ℕ) → List ℕ
owner_keys height publics = sha256 (to_be_bytes w32 (height_number height) ++ concat publics)

-- the header of a replica's log
abbrev pub own_header : Parameters → ℕ → ℕ → Height → List (List ℕ) → List ℕ
own_header s views me height publics = header_of s views me (height_number height) (owner_keys height publics)

-- The log is the replica's own, and the replica is in the state after its turns on the events of the log. The used bytes
-- are the header and the records of these events. Of a log that is new, or ends within the header, no bytes are used: the
-- host writes the header first. With the header and the records a lifetime begins.
pub record HasOpened (fits : Check) (gives : Gives) (opening : State) (header log : List ℕ) (used : ℕ) (now : State) : Type 0 where
  pub own : IsOwn header log
  pub events : List Event
  pub end : ℕ
  pub prefix : IsWholePrefix (header_digest header) (records_in log) events end
  pub state : now ≡ state_after fits gives opening events
  pub whole : HasHeader header log → (used ≡ 76 + end) × (take used log ≡ header ++ LogOf header events)
  pub torn : IsTorn header log → (used ≡ 0) × (events ≡ [])
  pub lived : HasLogged fits gives opening header now [] (header ++ LogOf header events) (length (header ++ LogOf header events)) (begun_with events)

-- the running digest after the whole records of a log with this header
abbrev pub IsDigestOf : List ℕ → List ℕ → List ℕ → Type 0
IsDigestOf header log digest = (events : List Event) (end : ℕ) → IsWholePrefix (header_digest header) (records_in log) events end
    → digest ≡ log_digest header events

-- the public key of a secret, whichever replica it is of
abbrev pub key_of_secret : List ℕ → List ℕ → Height → List ℕ
key_of_secret id seed height = any_public (any_sealer id seed height 0)

-- what is asked of the replica's number, the seals of its key and the count of public keys
pub record HasPlace (n views me : ℕ) (height : Height) (publics : List (List ℕ)) : Type 0 where
  pub number : me < n
  pub room : 5 * views ≤ capacity_of height
  pub count : length publics ≡ n

-- the same, and that the secret is the one of the public key at its number
pub record CanOpen (n views me : ℕ) (id seed : List ℕ) (height : Height) (publics : List (List ℕ)) : Type 0 where
  pub number : me < n
  pub room : 5 * views ≤ capacity_of height
  pub count : length publics ≡ n
  pub secret : slice_get publics me ≡ Some (key_of_secret id seed height)

-- What each fault on a log implies, for a replica with this header. Memory runs out only over an own log without a corrupt
-- record; a fault with ⊥ is never returned.
abbrev pub IsLogCause : OpenFault → List ℕ → List ℕ → Type 0
IsLogCause Number header log = ⊥
IsLogCause Views header log = ⊥
IsLogCause Count header log = ⊥
IsLogCause Secret header log = ⊥
IsLogCause NoHeader header log = (¬ IsOwn header log) × (¬ HasOwner log)
IsLogCause OtherLog header log = (¬ IsOwn header log) × HasOwner log
IsLogCause (Corrupt at) header log = IsBadIn header log at
IsLogCause NoMemory header log = IsIntact header log

-- what each fault on the records of the replica's own log implies, after the digest of its header
abbrev pub IsRecordsCause : OpenFault → List ℕ → List ℕ → Type 0
IsRecordsCause Number digest records = ⊥
IsRecordsCause Views digest records = ⊥
IsRecordsCause Count digest records = ⊥
IsRecordsCause Secret digest records = ⊥
IsRecordsCause NoHeader digest records = ⊥
IsRecordsCause OtherLog digest records = ⊥
IsRecordsCause (Corrupt at) digest records = (76 ≤ at) × IsBadAt digest records (at - 76)
IsRecordsCause NoMemory digest records = NoneBad digest records

-- What each fault of an opening implies: its own cause, and that none before it holds, in the order of the variants. `NoMemory`
-- stands in for none of the first three: the key grows after them, and only then the secret can be compared.
abbrev pub IsCause : OpenFault → Parameters → ℕ → ℕ → List ℕ → List ℕ → Height → List (List ℕ) → List ℕ → Type 0
IsCause Number s views me id seed height publics log = s.n ≤ me
IsCause Views s views me id seed height publics log = (me < s.n) × (capacity_of height < 5 * views)
IsCause Count s views me id seed height publics log = (me < s.n) × (5 * views ≤ capacity_of height) × (length publics ≢ s.n)
IsCause Secret s views me id seed height publics log = HasPlace s.n views me height publics × (slice_get publics me ≢ Some (key_of_secret id seed height))
IsCause NoHeader s views me id seed height publics log =
    CanOpen s.n views me id seed height publics × (¬ IsOwn (own_header s views me height publics) log) × (¬ HasOwner log)
IsCause OtherLog s views me id seed height publics log =
    CanOpen s.n views me id seed height publics × (¬ IsOwn (own_header s views me height publics) log) × HasOwner log
IsCause (Corrupt at) s views me id seed height publics log = CanOpen s.n views me id seed height publics × IsBadIn (own_header s views me height publics) log at
IsCause NoMemory s views me id seed height publics log = HasPlace s.n views me height publics
