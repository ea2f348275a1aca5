-- The lifetimes of a replica, each from a start to the next crash.
use Rattle.std.specs.Prelude.{◌≡◌, ◌⊎◌, ◌≤◌, ℕ, List, [], ◌∷◌, ◌++◌, length, map, ⊤, All, Bool, false, Option, Some, None}
use Rattle.node_core.specs.declared.event.Event.{Event}
use Rattle.node_core.specs.declared.entry.Entry.{Entry}
use Rattle.node_core.specs.declared.turned.Turned.{Turned}
use Rattle.node_core.specs.Rows.{Check}
use Rattle.node_core.specs.Runs.{journal_of, state_after}
use Rattle.node_core.specs.State.{State}
use Rattle.node_core.specs.Reported.{Gives}
use Rattle.durable_node.specs.Keeping.{Grew}
use Rattle.durable_node.specs.Log.{CanBeKept, LogOf, log_digest, record_of}
use Rattle.durable_node.specs.Node.{Kept}

-- The events that were in the log at the start, the turns that succeeded, and the event of the refused turn, if there
-- was one.
pub record Lifetime : Type 0 where
  pub found : List Event
  pub turns : List Entry
  pub tried : Option Event

-- the events of its turns
abbrev pub reported_in : Lifetime → List Event
reported_in lifetime = map (λ t. t.event) lifetime.turns

-- the events whose records no crash takes
abbrev pub logged : Lifetime → List Event
logged lifetime = lifetime.found ++ reported_in lifetime

-- a lifetime at its start
abbrev pub begun_with : List Event → Lifetime
begun_with events = record { found = events; turns = []; tried = None }

-- one more turn succeeded
abbrev pub answered : Lifetime → Event → Turned → Lifetime
answered lifetime e turned = record { found = lifetime.found; turns = lifetime.turns ++ record { event = e; turned = turned } ∷ []; tried = lifetime.tried }

-- a turn is refused, the last one
abbrev pub tried : Lifetime → Event → Lifetime
tried lifetime e = record { found = lifetime.found; turns = lifetime.turns; tried = Some e }

-- ---- what a lifetime leaves

-- that event is left after those
abbrev pub IsTried : List Event → Option Event → List Event → Type 0
IsTried old None events = ⊥
IsTried old (Some e) events = events ≡ old ++ e ∷ []

-- a crash leaves the logged events, and at most the one of the refused turn
abbrev pub IsLeft : Lifetime → List Event → Type 0
IsLeft lifetime events = (events ≡ logged lifetime) ⊎ IsTried (logged lifetime) lifetime.tried events

-- each lifetime finds what the one before it left
abbrev pub FollowOn : Lifetime → List Lifetime → Type 0
FollowOn lifetime [] = ⊤
FollowOn lifetime (next ∷ lifetimes) = IsLeft lifetime next.found × FollowOn next lifetimes

-- the second list extends the first
pub record IsPrefixOf {X : Type 0} (xs ys : List X) : Type 0 where
  pub more : List X
  pub is : ys ≡ xs ++ more

-- ---- what a lifetime is

-- its answers are those of the node's turns, after the events that were found
abbrev pub IsLived : Check → Gives → State → Lifetime → Type 0
IsLived fits gives opening lifetime = lifetime.turns ≡ journal_of fits gives (state_after fits gives opening lifetime.found) (reported_in lifetime)

-- a prefix of the event's record was appended, or nothing
abbrev pub HasTried : List ℕ → Event → List ℕ → List ℕ → Type 0
HasTried digest e old new = (new ≡ old) ⊎ (CanBeKept e × Grew (record_of digest e) old new)

-- the bytes are a log with this running digest, followed by what was appended for the event of the refused turn
abbrev pub AreAfter : List ℕ → Option Event → List ℕ → List ℕ → Type 0
AreAfter digest None log bytes = bytes ≡ log
AreAfter digest (Some e) log bytes = HasTried digest e log bytes

-- A node has led this lifetime, from an opening state and over a log with this header. Its answers are those of the turns
-- on the logged events. Until a turn was refused, it is in the state to which they lead. The header and their records
-- are durable.
pub record HasLived (fits : Check) (gives : Gives) (opening : State) (header : List ℕ) (closed : Bool) (now : State) (bytes : List ℕ)
    (durable_size : ℕ) (lifetime : Lifetime) : Type 0 where
  pub sized : length header ≡ 76
  pub answers : IsLived fits gives opening lifetime
  pub stands : closed ≡ false → (lifetime.tried ≡ None) × (now ≡ state_after fits gives opening (logged lifetime))
  pub held : AreAfter (log_digest header (logged lifetime)) lifetime.tried (header ++ LogOf header (logged lifetime)) bytes
  pub kept : length (header ++ LogOf header (logged lifetime)) ≤ durable_size
  pub each : All CanBeKept (logged lifetime)

-- the same for a node with its keeper, and its running digest is that of the log until a turn was refused
abbrev pub Lived : {S K : Type 0} → (K → List ℕ) → (K → ℕ) → Check → Gives → State → List ℕ → Kept S K → Lifetime → Type 0
Lived bytes durable_size fits gives opening header kept lifetime =
    HasLived fits gives opening header kept.closed kept.node.state (bytes kept.keeper) (durable_size kept.keeper) lifetime
    × (kept.closed ≡ false → kept.digest ≡ log_digest header (logged lifetime))
