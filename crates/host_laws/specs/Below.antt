-- The laws of the crates below, in the form in which the laws of hosts rest on them.
use Rattle.std.specs.Prelude.{◌≡◌, ◌≤◌, ◌<◌, ◌*◌, ◌^◌, ℕ, List, [], ◌∷◌, ◌++◌, true, false, All}
use Rattle.std.specs.List.{flat_map}
use Rattle.seq_base.specs.Setting.{Parameters}
use Rattle.node_core.specs.declared.event.Event.{Event}
use Rattle.node_core.specs.Rows.{Check}
use Rattle.node_core.specs.Runs.{AllCome, journal_of, opening_state}
use Rattle.node_core.specs.State.{State}
use Rattle.node_core.specs.Reported.{Gives}
use Rattle.journal_laws.specs.Sealed.{CountsItsSeals}
use Rattle.durable_node.specs.Header.{HasHeader, IsOwn, records_in}
use Rattle.durable_node.specs.Keeping.{Stays}
use Rattle.durable_node.specs.Incarnations.{IsPrefixOf, Lifetime, logged}
use Rattle.durable_node.specs.Log.{CanBeKept, IsWholePrefix, log_digest, records_of}
use Rattle.durable_node.specs.Check.{header_digest}
use Rattle.replica_box.specs.Hosting.{ContinuesLog, HasLogged, LeavesPrefix, Prepared, record_for, recorded}
use Rattle.replica_box.specs.Owners.{AreToldApart, IsOwner}
use Rattle.replica_box.specs.Seats.{HasPrepared, Seat}
use Rattle.host_laws.specs.Hosts.{log_of}
use Rattle.host_laws.specs.Roles.{Role, Secret, header_for, owner_of}
use Rattle.journal_rules.specs.Rules.{IsLawful, Scale}
use Rattle.journal_laws.specs.Standing.{MayCome, StandsAsReported}
use Rattle.lifetime_laws.specs.Joined.{IsFromReplica}

-- the whole records of a log with this header are those of these events
abbrev pub IsRead : List ℕ → List ℕ → List Event → ℕ → Type 0
IsRead header log events end = IsWholePrefix (header_digest header) (records_in log) events end

-- those on logs
pub record LogLaws : Type 0 where
  pub prepared : (fits : Check) (gives : Gives) (opening : State) (header : List ℕ) (now : State) (ready : List Prepared) (bytes : List ℕ)
      (durable_size : ℕ) (lifetime : Lifetime) (next : Prepared)
      → HasLogged fits gives opening header now (recorded ready) bytes durable_size lifetime → (next.has_record ≡ true → CanBeKept next.event)
      → HasLogged fits gives opening header now (recorded (ready ++ next ∷ [])) bytes durable_size lifetime
  pub dropped : (fits : Check) (gives : Gives) (opening : State) (header : List ℕ) (now : State) (first : Prepared) (more : List Prepared)
      (bytes : List ℕ) (durable_size : ℕ) (lifetime : Lifetime)
      → HasLogged fits gives opening header now (recorded (first ∷ more)) bytes durable_size lifetime → first.has_record ≡ false
      → HasLogged fits gives opening header now (recorded more) bytes durable_size lifetime
  pub appended : (fits : Check) (gives : Gives) (opening : State) (header : List ℕ) (now : State) (events : List Event) (bytes more : List ℕ)
      (durable_size more_durable : ℕ) (lifetime : Lifetime)
      → HasLogged fits gives opening header now events bytes durable_size lifetime → IsPrefixOf bytes more
      → IsPrefixOf more (log_of header (logged lifetime ++ events)) → durable_size ≤ more_durable
      → HasLogged fits gives opening header now events more more_durable lifetime
  pub headed : (fits : Check) (gives : Gives) (opening : State) (header : List ℕ) (now : State) (events : List Event) (bytes new : List ℕ)
      (durable_size : ℕ) (lifetime : Lifetime)
      → HasLogged fits gives opening header now events bytes durable_size lifetime → Stays durable_size bytes new → HasHeader header new
  pub crashed : (fits : Check) (gives : Gives) (opening : State) (header : List ℕ) (now : State) (ready : List Event) (bytes new : List ℕ)
      (durable_size : ℕ) (lifetime : Lifetime)
      → HasLogged fits gives opening header now ready bytes durable_size lifetime → Stays durable_size bytes new → (events : List Event) (end : ℕ)
      → IsRead header new events end
      → LeavesPrefix lifetime ready events
  pub one_prefix : (header log : List ℕ) (a b : List Event) (i j : ℕ) → IsRead header log a i → IsRead header log b j → (a ≡ b) × (i ≡ j)
  pub one_role : (secret : Secret) (a b : Role) (log : List ℕ) → IsOwner (owner_of secret a) → IsOwner (owner_of secret b)
      → AreToldApart (owner_of secret a) (owner_of secret b)
      → HasHeader (header_for a) log → IsOwn (header_for b) log → a ≡ b
  pub opened : (header : List ℕ) (events : List Event) → ContinuesLog header events [] (log_digest header events)
  pub lined : (header : List ℕ) (events : List Event) (old new : Seat) (event : Event) → ContinuesLog header events old.ready old.digest
      → HasPrepared event old new → ContinuesLog header events new.ready new.digest
  pub taken : (header : List ℕ) (events : List Event) (first : Prepared) (more : List Prepared) (digest : List ℕ)
      → ContinuesLog header events (first ∷ more) digest
      → ContinuesLog header (events ++ recorded (first ∷ [])) more digest
  pub records : (header : List ℕ) (events : List Event) (ready : List Prepared) (digest : List ℕ) → ContinuesLog header events ready digest
      → flat_map record_for ready ≡ records_of (log_digest header events) (recorded ready)
  pub counted : (fits : Check) (gives : Gives) (s : Parameters) (views me capacity : ℕ) (events : List Event) → views < 2 ^ 32 → 5 * views ≤ capacity
      → CountsItsSeals fits gives s views me capacity events

-- those on nodes
pub record NodeLaws : Type 0 where
  pub lawful : (gives : Gives) (by : Scale) (views me capacity : ℕ) (events : List Event) → MayCome by views me events
      → IsLawful by (journal_of by.fits gives (opening_state by.setting views me capacity) events)
  pub reported : (gives : Gives) (by : Scale) (views me capacity : ℕ) (events : List Event) → MayCome by views me events
      → StandsAsReported gives by views me capacity events
  pub come : (setting : Parameters) (events : List Event) → All CanBeKept events → All (IsFromReplica setting.n) events → AllCome setting events
