-- The arrivals at a replica: how a log answers a transaction, and how its list changes.
use Rattle.std.specs.Prelude.{◌≡◌, ℕ, ◌<◌, ◌≤◌, false, List, [], ◌∷◌, ◌++◌, length, slice_get, Some, Result, Ok, Err}
use mathlib.Core.List.{IsPrefix}
use Rattle.seq_base.specs.Lists.{holds, AreDistinct}
use Rattle.seq_base.specs.declared.tx.Tx.{Tx}
use Rattle.locked_log.specs.History.{Known, known}
use Rattle.arrival_log.specs.declared.log.Placed.{Placed}
use Rattle.arrival_log.specs.declared.log.Placed.TheVariants.{At, Again}
use Rattle.arrival_log.specs.declared.log.SubmitFault.{SubmitFault}
use Rattle.arrival_log.specs.declared.log.SubmitFault.TheVariants.{Full, NoMemory}

-- each transaction occurs once, and there are at most 65,536
pub record IsArrivals (log : List Tx) : Type 0 where
  pub distinct : AreDistinct log
  pub within : length log ≤ 65536

-- When each answer is given. For one log and transaction only one of them fits, except that NoMemory may come instead
-- of At
abbrev pub IsAnswer : List Tx → Tx → Result Placed SubmitFault → Type 0
IsAnswer log tx (Ok (At k)) = (holds tx log ≡ false) × (k ≡ length log) × (length log < 65536)
IsAnswer log tx (Ok (Again k)) = slice_get log k ≡ Some tx
IsAnswer log tx (Err Full) = (holds tx log ≡ false) × (length log ≡ 65536)
IsAnswer log tx (Err NoMemory) = (holds tx log ≡ false) × (length log < 65536)

-- the list after an answer: it gains the transaction exactly at At
abbrev pub list_after : List Tx → Tx → Result Placed SubmitFault → List Tx
list_after log tx (Ok (At k)) = log ++ tx ∷ []
list_after log tx (Ok (Again k)) = log
list_after log tx (Err fault) = log

-- one submission
pub record IsSubmitted (log : List Tx) (tx : Tx) (answer : Result Placed SubmitFault) (log' : List Tx) : Type 0 where
  pub cause : IsAnswer log tx answer
  pub list : log' ≡ list_after log tx answer
  pub arrivals : IsArrivals log'

-- a place is gained exactly at At
abbrev pub own_after : List ℕ → Result Placed SubmitFault → List ℕ
own_after own (Ok (At k)) = own ++ k ∷ []
own_after own (Ok (Again k)) = own
own_after own (Err fault) = own

-- the place that an answer names
abbrev pub place_of : Placed → ℕ
place_of (At k) = k
place_of (Again k) = k

-- One submission by a pass: it found a list that extends all it had seen, and has seen the list after the answer
pub record HasSubmitted (old : Known Tx) (tx : Tx) (answer : Result Placed SubmitFault) (new : Known Tx) : Type 0 where
  pub found : List Tx
  pub later : IsPrefix old.seen found
  pub submitted : IsSubmitted found tx answer new.seen
  pub pass : new ≡ known old.log old.parts new.seen (own_after old.own answer)
