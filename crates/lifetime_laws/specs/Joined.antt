-- The journal of all lifetimes of a replica, joined.
use Rattle.std.specs.Prelude.{ℕ, ◌<◌, List, [], ◌∷◌, ◌++◌, length, drop, ⊤}
use Rattle.std.specs.List.{AllByRecursion}
use Rattle.node_core.specs.declared.event.Event.{Event}
use Rattle.node_core.specs.declared.event.Event.TheVariants.{Arrived, Deliver, Tick}
use Rattle.node_core.specs.declared.entry.Entry.{Entry}
use Rattle.node_core.specs.Rows.{Check}
use Rattle.node_core.specs.Runs.{journal_of, state_after}
use Rattle.node_core.specs.State.{State}
use Rattle.node_core.specs.Reported.{Gives}
use Rattle.durable_node.specs.Incarnations.{IsLived, Lifetime, logged}

-- the last of these lifetimes
abbrev pub last_lifetime : Lifetime → List Lifetime → Lifetime
last_lifetime lifetime [] = lifetime
last_lifetime lifetime (next ∷ lifetimes) = last_lifetime next lifetimes

-- The turns of a lifetime before it answered any, on events that no earlier lifetime had answered: on the event of a refused
-- turn, if the crash left its record. The start of the lifetime made them.
abbrev pub recovered : Check → Gives → State → Lifetime → Lifetime → List Entry
recovered fits gives opening lifetime next =
    journal_of fits gives (state_after fits gives opening (logged lifetime)) (drop (length (logged lifetime)) next.found)

-- The joined journals of these lifetimes: the answers of each, and between two of them what the start of the second
-- recovered.
abbrev pub joined_journal : Check → Gives → State → Lifetime → List Lifetime → List Entry
joined_journal fits gives opening lifetime [] = lifetime.turns
joined_journal fits gives opening lifetime (next ∷ lifetimes) =
    lifetime.turns ++ recovered fits gives opening lifetime next ++ joined_journal fits gives opening next lifetimes

-- each of them was led from this opening state, under one check and with the seals of one sealer
abbrev pub AreLived : Check → Gives → State → Lifetime → List Lifetime → Type 0
AreLived fits gives opening lifetime lifetimes = AllByRecursion (IsLived fits gives opening) (lifetime ∷ lifetimes)

-- the event came from a replica of the setting, if it was delivered
abbrev pub IsFromReplica : ℕ → Event → Type 0
IsFromReplica n (Arrived list) = ⊤
IsFromReplica n (Deliver from bytes) = from < n
IsFromReplica n (Tick floor) = ⊤
