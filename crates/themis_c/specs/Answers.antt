-- Which status a call returns on a replica, with the cause of each. No call returns another status, and VACANT only where there is
-- no replica. Exactly one case holds, where memory suffices.
use Rattle.std.specs.Prelude.{◌≡◌, ◌≢◌, ◌⊎◌, ◌↔◌, ℕ, [], true, false, Option, None}
use Rattle.node_core.specs.declared.event.Event.{Event}
use Rattle.durable_node.specs.Log.{IsShort}
use Rattle.replica_box.specs.Acting.{FirstHasRecord, OfFirst}
use Rattle.replica_box.specs.Seats.{CanRunOut, IsJudgedWithMemory, Seat}
use Rattle.themis_c.specs.declared.TheConstants.{OK, VACANT, NO_MEMORY, LONG, UNREADY, HALTED, AGAIN}

-- The call can only fail by an allocation.
abbrev pub IsOkOrNoMemory : ℕ → Type 0
IsOkOrNoMemory status = (status ≡ OK) ⊎ (status ≡ NO_MEMORY)

-- The call can't fail on a replica, or on a verifier.
pub record IsHeldStatus {X : Type 0} (status : ℕ) (held : Option X) : Type 0 where
  pub ok : (status ≡ OK) ↔ (held ≢ None)
  pub vacant : (status ≡ VACANT) ↔ (held ≡ None)

-- Of an event that is to be prepared: it does not fit a record; or it does, and the replica has halted; or it does, and
-- the replica runs.
abbrev pub IsPrepareStatus : ℕ → Event → Seat → Type 0
IsPrepareStatus status event seat =
    ((status ≡ LONG) × (¬ IsShort event))
    ⊎ ((status ≡ HALTED) × IsShort event × (seat.node.halted ≡ true))
    ⊎ (IsOkOrNoMemory status × IsShort event × (seat.node.halted ≡ false))

-- Of a turn, what each status implies. OK and AGAIN say more in clauses of their own. With NO_MEMORY the event has no record: where
-- it has one, memory that runs out halts the replica. Memory runs out only where it is taken: bytes that are no message, or that the
-- first tests refuse, answer neither.
abbrev pub IsActStatus : ℕ → Seat → Type 0
IsActStatus status seat =
    ((status ≡ UNREADY) × (seat.ready ≡ []))
    ⊎ ((status ≡ HALTED) × (seat.ready ≢ []) × (seat.node.halted ≡ false → FirstHasRecord true seat × OfFirst CanRunOut seat))
    ⊎ (((status ≡ OK) ⊎ (status ≡ AGAIN)) × (seat.ready ≢ []) × (seat.node.halted ≡ false))
    ⊎ ((status ≡ NO_MEMORY) × (seat.ready ≢ []) × (seat.node.halted ≡ false) × FirstHasRecord false seat × OfFirst IsJudgedWithMemory seat)
