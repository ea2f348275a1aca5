-- What the log of a replica shows: the calls of its desk in turn, what arrived by them, and which receipts it knew of.
use Rattle.std.specs.Prelude.{ℕ, List, [], ◌∷◌, ◌++◌, Bool, true, false, ◌&&◌, ◌==◌, nat_lt, if◌then◌else◌, fold, ⊤}
use Rattle.seq_base.specs.declared.tx.Tx.{Tx}
use Rattle.intake.specs.declared.slot.Receipt.{Receipt}
use Rattle.intake.specs.declared.slot.Bound.{Bound}
use Rattle.intake.specs.declared.slot.Taken.{Taken}
use Rattle.intake.specs.declared.slot.Taken.TheVariants.{Final, Held, Full, Beyond, New}
use Rattle.intake.specs.Desk.{Desk, opening, next_stamp}
use Rattle.intake.specs.Receiving.{answer_of, hear_answer, restore_answer, is_new, received, heard, clock_heard, clock_raised, settled, restored}
use Rattle.intake.specs.Arriving.{arriving, arrived, given, is_waiting}

-- the calls that change a desk
pub data Call : Type 0 where
  Receive : (tx : Tx) → (source : ℕ) → Call
  Hear : (peer : ℕ) → (receipt : Receipt) → Call
  HearClock : (peer : ℕ) → (clock : ℕ) → Call
  Settle : (txs : List Tx) → Call
  Restore : (tx : Tx) → Call
  Arrive : (bound : Bound) → (extra : List Tx) → Call
  Give : (tx : Tx) → Call

abbrev pub desk_after : Call → Desk → Desk
desk_after (Call.Receive tx source) d = received source tx d
desk_after (Call.Hear peer receipt) d = heard peer receipt d
desk_after (Call.HearClock peer clock) d = clock_heard peer clock d
desk_after (Call.Settle txs) d = settled txs d
desk_after (Call.Restore tx) d = restored tx d
desk_after (Call.Arrive bound extra) d = arrived bound extra d
desk_after (Call.Give tx) d = given tx d

-- what arrives by a call, in order
abbrev pub arriving_by : Call → Desk → List Tx
arriving_by (Call.Receive tx source) d = []
arriving_by (Call.Hear peer receipt) d = []
arriving_by (Call.HearClock peer clock) d = []
arriving_by (Call.Settle txs) d = []
arriving_by (Call.Restore tx) d = []
arriving_by (Call.Arrive bound extra) d = arriving bound extra d
arriving_by (Call.Give tx) d = if is_waiting tx d then tx ∷ [] else []

abbrev pub is_arrive : Call → Bool
is_arrive (Call.Receive tx source) = false
is_arrive (Call.Hear peer receipt) = false
is_arrive (Call.HearClock peer clock) = false
is_arrive (Call.Settle txs) = false
is_arrive (Call.Restore tx) = false
is_arrive (Call.Arrive bound extra) = true
is_arrive (Call.Give tx) = false

-- the receipt that a desk makes of a transaction, if it takes it
abbrev pub receipt_if : Bool → Tx → Desk → List Receipt
receipt_if takes tx d = if takes then record { tx = tx; stamp = next_stamp d } ∷ [] else []

-- the own receipt that a call makes
abbrev pub own_receipt : Call → Desk → List Receipt
own_receipt (Call.Receive tx source) d = receipt_if (is_new (answer_of source tx d)) tx d
own_receipt (Call.Hear peer receipt) d = receipt_if (is_new (hear_answer peer receipt d)) receipt.tx (clock_raised peer receipt.stamp d)
own_receipt (Call.HearClock peer clock) d = []
own_receipt (Call.Settle txs) d = []
own_receipt (Call.Restore tx) d = receipt_if (is_new (restore_answer tx d)) tx d
own_receipt (Call.Arrive bound extra) d = []
own_receipt (Call.Give tx) d = []

-- A peer's receipt is learned unless its quota is used up, or its stamp is one that no honest clock reaches.
abbrev pub is_learned : Taken → Bool
is_learned New = true
is_learned Held = true
is_learned Final = true
is_learned Full = false
is_learned Beyond = false

-- the receipt of replica i that a call brings from it
abbrev pub peer_receipt : ℕ → Call → Desk → List Receipt
peer_receipt i (Call.Receive tx source) d = []
peer_receipt i (Call.Hear peer receipt) d = if (peer == i) && is_learned (hear_answer peer receipt d) then receipt ∷ [] else []
peer_receipt i (Call.HearClock peer clock) d = []
peer_receipt i (Call.Settle txs) d = []
peer_receipt i (Call.Restore tx) d = []
peer_receipt i (Call.Arrive bound extra) d = []
peer_receipt i (Call.Give tx) d = []

-- What a call shows of the receipts of replica i: the own ones are those that the desk makes.
abbrev pub receipts_by : ℕ → Call → Desk → List Receipt
receipts_by i call d = if i == d.me then own_receipt call d else peer_receipt i call d

-- A replica at a moment: its desk, what has arrived since this was opened, and the receipts of each replica that it
-- knows of since then, its own among them.
pub record Past : Type 0 where
  pub desk : Desk
  pub arrivals : List Tx
  pub receipts : ℕ → List Receipt

abbrev pub opened : ℕ → ℕ → ℕ → Past
opened n f me = record { desk = opening n f me; arrivals = []; receipts = λ i. [] }

-- the moment after a call
abbrev pub with_call : Past → Call → Past
with_call p call = record {
  desk = desk_after call p.desk;
  arrivals = p.arrivals ++ arriving_by call p.desk;
  receipts = λ i. p.receipts i ++ receipts_by i call p.desk;
}

-- the moment after some calls
abbrev pub with_calls : Past → List Call → Past
with_calls p calls = fold with_call p calls

-- something holds of each call and the moment before it
abbrev pub AtEach : (Past → Call → Type 0) → Past → List Call → Type 0
AtEach P p [] = ⊤
AtEach P p (call ∷ calls) = P p call × AtEach P (with_call p call) calls

-- the call names a replica
abbrev pub names_replica : ℕ → Call → Bool
names_replica n (Call.Receive tx source) = true
names_replica n (Call.Hear peer receipt) = nat_lt peer n
names_replica n (Call.HearClock peer clock) = nat_lt peer n
names_replica n (Call.Settle txs) = true
names_replica n (Call.Restore tx) = true
names_replica n (Call.Arrive bound extra) = true
names_replica n (Call.Give tx) = true
