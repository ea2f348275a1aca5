-- What crosses to C and from C of what a replica received.
use Rattle.std.specs.Prelude.{◌≡◌, ◌⊎◌, ◌++◌, ◌+◌, ◌≤◌, ◌<◌, ℕ, List, [], length, drop, map, max}
use Rattle.std.specs.Map.{keys_of}
use Rattle.seq_base.specs.declared.tx.Tx.{Tx}
use Rattle.intake.specs.Desk.{waiting}
use Rattle.intake.specs.Offered.{HasArrived, unproposed}
use Rattle.intake.specs.Receiving.{answer_of, received}
use Rattle.intake.specs.declared.slot.Receipt.{Receipt}
use Rattle.intake.specs.declared.slot.Standing.{Standing}
use Rattle.intake.specs.declared.slot.Standing.TheVariants as standings
use Rattle.intake.specs.declared.slot.Taken.{Taken}
use Rattle.intake.specs.declared.slot.Taken.TheVariants.{New, Held, Final, Full, Beyond}
use Rattle.replica_box.specs.Seats.{Seat, proposes}
use Rattle.themis_c.specs.declared.CReceipt.{CReceipt}
use Rattle.themis_c.specs.declared.CTx.{CTx}
use Rattle.themis_c.specs.declared.TheConstants.{BAD_NUMBER}
use Rattle.themis_c.specs.Answers.{IsOkOrNoMemory}
use Rattle.themis_c.specs.Calls.{c_tx, tx_of}

abbrev pub receipt_of : CReceipt → Receipt
receipt_of r = record { tx = tx_of r.tx; stamp = r.stamp }

abbrev pub c_receipt : Receipt → CReceipt
c_receipt r = record { tx = c_tx r.tx; stamp = r.stamp }

-- the number of an answer to a transaction
abbrev pub taken_code : Taken → ℕ
taken_code New = 0
taken_code Held = 1
taken_code Final = 2
taken_code Full = 3
taken_code Beyond = 4

-- the number of what is known of a transaction
abbrev pub standing_code : Standing → ℕ
standing_code standings.Unknown = 0
standing_code standings.Waiting = 1
standing_code standings.Arrived = 2
standing_code standings.Final = 3

-- the answer to a transaction of an own client, and what it changes
unfoldable pub submit_answer : Tx → Seat → ℕ
submit_answer tx seat = taken_code (answer_of seat.desk.me tx seat.desk)

unfoldable pub submitted : Tx → Seat → Seat
submitted tx seat = record seat { desk = received seat.desk.me tx seat.desk }

-- how many are held, and how many of them wait
abbrev pub held_count : Seat → ℕ
held_count seat = length seat.desk.held

abbrev pub waiting_count : Seat → ℕ
waiting_count seat = length (waiting seat.desk)

-- Of a call that names a peer: it is no replica, or the call can only fail by an allocation.
abbrev pub IsPeerStatus : ℕ → ℕ → Seat → Type 0
IsPeerStatus status peer seat = ((status ≡ BAD_NUMBER) × (seat.desk.n ≤ peer)) ⊎ (IsOkOrNoMemory status × (peer < seat.desk.n))

-- What arrived stands at the start of the buffer, exceptions last.
pub record HasCopied (old new : Seat) (txs exceptions : List Tx) (buffer filled : List CTx) (count given : ℕ) : Type 0 where
  pub arrived : HasArrived old.desk txs exceptions new.desk
  pub copied : filled ≡ map c_tx (txs ++ exceptions) ++ drop count buffer
  pub count_is : count ≡ length txs + length exceptions
  pub given_is : given ≡ length exceptions
  -- At most 480 that no block proposes have arrived, unless more had before.
  pub cap : unproposed (proposes old.node.state.known) old.desk + count ≤ max 480 (unproposed (proposes old.node.state.known) old.desk)

-- There are no exceptions.
pub record HasCopiedProposed (old new : Seat) (buffer filled : List CTx) (count : ℕ) : Type 0 where
  pub txs : List Tx
  pub copied : HasCopied old new txs [] buffer filled count 0

-- Where few wait, all of them arrive, in the order of receipt.
pub record HasCopiedArrivals (old new : Seat) (buffer filled : List CTx) (count given : ℕ) : Type 0 where
  pub txs : List Tx
  pub exceptions : List Tx
  pub copied : HasCopied old new txs exceptions buffer filled count given
  pub few : length (waiting old.desk) + unproposed (proposes old.node.state.known) old.desk ≤ 64 → (txs ≡ keys_of (waiting old.desk)) × (exceptions ≡ [])
