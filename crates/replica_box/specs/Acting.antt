-- What a call of `act` does to a replica, by what it returns.
use Rattle.std.specs.Prelude.{◌≡◌, ◌≢◌, List, [], ◌∷◌, Bool, true, false, Result, Ok, Err}
use Rattle.node_core.specs.declared.event.Reason.{Reason}
use Rattle.replica_box.specs.Hosting.{Prepared}
use Rattle.node_core.specs.declared.event.Event.{Event}
use Rattle.replica_box.specs.Seats.{CanRunOut, HasActed, IsAgain, IsIdle, IsJudgedWithMemory, Seat, gives_of}
use Rattle.replica_box.specs.declared.fault.ActFault.{ActFault}
use Rattle.replica_box.specs.declared.fault.ActFault.TheVariants.{Unready, Halted, Again, NoMemory}

-- the event that was prepared first has a record, or has none
abbrev pub FirstHasRecord : Bool → Seat → Type 0
FirstHasRecord has seat = (first : Prepared) (more : List Prepared) → seat.ready ≡ first ∷ more → first.has_record ≡ has

-- this holds of the event that was prepared first
abbrev pub OfFirst : (Seat → Event → Type 0) → Seat → Type 0
OfFirst Holds seat = (first : Prepared) (more : List Prepared) → seat.ready ≡ first ∷ more → Holds seat first.event

-- An event is prepared, the replica ran before the turn on it and runs after it. Without a record only an event is acted on that
-- changes nothing.
pub record MakesTurn (reason : Reason) (old new : Seat) : Type 0 where
  pub prepared : old.ready ≢ []
  pub ran : old.node.halted ≡ false
  pub runs : new.node.halted ≡ false
  pub acted : HasActed reason old new
  pub idle : (first : Prepared) (more : List Prepared) → old.ready ≡ first ∷ more → first.has_record ≡ false → IsIdle old first.event

-- An event is prepared, and the replica is halted: it was before, or its memory ran out in the turn on an event with a record,
-- which takes memory. What the last turn gave is still there.
pub record IsHalted (old new : Seat) : Type 0 where
  pub prepared : old.ready ≢ []
  pub halted : new.node.halted ≡ true
  pub given : (new.sealed ≡ old.sealed) × (new.sends ≡ old.sends) × (new.digest ≡ old.digest)
  pub cause : old.node.halted ≡ false → FirstHasRecord true old
  pub memory : old.node.halted ≡ false → OfFirst CanRunOut old

-- Memory ran out before anything was done about an event without a record.
pub record IsRefused (old new : Seat) : Type 0 where
  pub prepared : old.ready ≢ []
  pub ran : old.node.halted ≡ false
  pub unlogged : FirstHasRecord false old
  pub memory : OfFirst IsJudgedWithMemory old
  pub same : new ≡ old

-- What each answer of `act` implies. Only one fits, but for one that memory decides: Halted for an event with a record, and NoMemory
-- for one without.
abbrev pub ActCase : Result Reason ActFault → Seat → Seat → Type 0
ActCase (Ok reason) old new = MakesTurn reason old new
ActCase (Err Unready) old new = (old.ready ≡ []) × (new ≡ old)
ActCase (Err Halted) old new = IsHalted old new
ActCase (Err Again) old new = (old.node.halted ≡ false) × IsAgain old new
ActCase (Err NoMemory) old new = IsRefused old new

-- The same, and what no answer changes.
pub record Acts (result : Result Reason ActFault) (old new : Seat) : Type 0 where
  pub case : ActCase result old new
  pub checker : new.checker ≡ old.checker
  pub header : new.header ≡ old.header
  pub desk : new.desk ≡ old.desk
  pub gives : gives_of new ≡ gives_of old
