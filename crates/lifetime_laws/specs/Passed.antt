-- A log that is passed on from one lifetime to the next, over nodes with any settings.
use Rattle.std.specs.Prelude.{ℕ, List, [], ◌∷◌, map}
use Rattle.std.specs.List.{AllByRecursion}
use Rattle.seq_base.specs.Setting.{Parameters}
use Rattle.node_core.specs.Rows.{Check}
use Rattle.node_core.specs.Runs.{opening_state}
use Rattle.node_core.specs.State.{State}
use Rattle.node_core.specs.Reported.{Gives}
use Rattle.durable_node.specs.Header.{FitsHeader, HasHeader, IsOwn, header_of}
use Rattle.durable_node.specs.Incarnations.{IsLived, Lifetime}

-- what a node is started with, in addition to its sealer
pub record Start : Type 0 where
  pub setting : Parameters
  pub views : ℕ
  pub replica : ℕ
  pub height : ℕ
  pub keys : List ℕ

abbrev pub FitsStart : Start → Type 0
FitsStart start = FitsHeader start.setting start.views start.replica start.height start.keys

abbrev pub header_for : Start → List ℕ
header_for start = header_of start.setting start.views start.replica start.height start.keys

-- the state before its first turn
abbrev pub opening_for : ℕ → Start → State
opening_for capacity start = opening_state start.setting start.views start.replica capacity

-- a lifetime, what its node was started with, and the log that its crash left
pub record Led : Type 0 where
  pub start : Start
  pub lifetime : Lifetime
  pub left : List ℕ

-- Each crash leaves the header of its node's start, and the next start takes the log that the crash left as its own.
-- Clauses of `DurableNode` state both.
abbrev pub IsPassedOn : Led → List Led → Type 0
IsPassedOn led [] = HasHeader (header_for led.start) led.left
IsPassedOn led (next ∷ more) = HasHeader (header_for led.start) led.left × IsOwn (header_for next.start) led.left × IsPassedOn next more

-- the numbers and keys of each start fit their fields
abbrev pub AllFit : Led → List Led → Type 0
AllFit led more = AllByRecursion (λ l. FitsStart l.start) (led ∷ more)

-- the lifetimes alone
abbrev pub lifetimes_in : List Led → List Lifetime
lifetimes_in led = map (λ l. l.lifetime) led

-- each lifetime was led from the opening state of its own start
abbrev pub AreLed : Check → Gives → ℕ → Led → List Led → Type 0
AreLed fits gives capacity led more = AllByRecursion (λ l. IsLived fits gives (opening_for capacity l.start) l.lifetime) (led ∷ more)
