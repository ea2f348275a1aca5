-- How a desk changes when it receives, hears and settles.
use Rattle.std.specs.Prelude.{ℕ, ◌+◌, max, List, [], ◌∷◌, ◌++◌, map, Bool, true, false, ◌||◌, ◌==◌, not, nat_lt, nat_le, if◌then◌else◌, filter, take, slice_index_or, slice_set, replicate}
use Rattle.std.specs.List.{list_any}
use Rattle.indexmap.specs.IndexSet.{insert_all}
use Rattle.seq_base.specs.declared.tx.Tx.{Tx}
use Rattle.seq_base.specs.Tx.{tx_eq}
use Rattle.intake.specs.declared.slot.Slot.{Slot}
use Rattle.intake.specs.declared.slot.Receipt.{Receipt}
use Rattle.intake.specs.declared.slot.Taken.{Taken}
use Rattle.intake.specs.declared.slot.Taken.TheVariants.{Final, Held, Full, Beyond, New}
use Rattle.intake.specs.Desk.{Desk, is_final, is_held, charged, quota, next_stamp, own_stamp}
use Rattle.intake.specs.Keys.{unknown, limit}

-- a transaction with the own stamp alone
abbrev pub own_slot : ℕ → ℕ → Bool → ℕ → Slot
own_slot me stamp arrived source = record { stamps = slice_set (replicate 16 unknown) me stamp; arrived = arrived; source = source }

-- the own clock becomes the stamp, and the transaction follows the held ones
abbrev pub stamped : ℕ → Bool → ℕ → Tx → Desk → Desk
stamped stamp arrived source tx d =
    record d { clock = stamp; clocks = slice_set d.clocks d.me stamp; held = d.held ++ (tx, own_slot d.me stamp arrived source) ∷ [] }

abbrev pub with_receipt : ℕ → Tx → Desk → Desk
with_receipt source tx d = stamped (next_stamp d) false source tx d

-- the clock is used up
abbrev pub is_late : Desk → Bool
is_late d = nat_le limit (next_stamp d)

abbrev pub is_full : ℕ → Desk → Bool
is_full source d = nat_le (quota source d) (charged source d) || is_late d

-- the answer to a transaction of a source
abbrev pub answer_of : ℕ → Tx → Desk → Taken
answer_of source tx d = if is_final tx d then Final else if is_held tx d then Held else if is_full source d then Full else New

abbrev pub is_new : Taken → Bool
is_new New = true
is_new Final = false
is_new Held = false
is_new Full = false
is_new Beyond = false

abbrev pub received : ℕ → Tx → Desk → Desk
received source tx d = if is_new (answer_of source tx d) then with_receipt source tx d else d

-- The first stamp of a peer stays.
abbrev pub with_stamp : ℕ → ℕ → Slot → Slot
with_stamp peer stamp slot = if slice_index_or slot.stamps peer 0 == unknown then record slot { stamps = slice_set slot.stamps peer stamp } else slot

-- the slot of one transaction changed
abbrev pub changed_at : Tx → (Slot → Slot) → Tx × Slot → Tx × Slot
changed_at tx f e = if tx_eq tx e.0 then (e.0, f e.1) else e

abbrev pub with_slot : Tx → (Slot → Slot) → Desk → Desk
with_slot tx f d = record d { held = map (changed_at tx f) d.held }

-- the peer's stamp of a held transaction, noted unless one was known
abbrev pub noted : ℕ → Receipt → Desk → Desk
noted peer receipt d = with_slot receipt.tx (with_stamp peer receipt.stamp) d

-- No clock falls.
abbrev pub clock_raised : ℕ → ℕ → Desk → Desk
clock_raised peer clock d = record d { clocks = slice_set d.clocks peer (max (slice_index_or d.clocks peer 0) clock) }

-- what a peer's clock changes; a clock that no honest replica reaches changes nothing
abbrev pub clock_heard : ℕ → ℕ → Desk → Desk
clock_heard peer clock d = if nat_lt clock limit then clock_raised peer clock d else d

-- what a peer's receipt changes: its clock, a receipt of one's own where the transaction is new, and its stamp
abbrev pub heard : ℕ → Receipt → Desk → Desk
heard peer receipt d =
    if nat_lt receipt.stamp limit then noted peer receipt (received peer receipt.tx (clock_raised peer receipt.stamp d)) else d

abbrev pub hear_answer : ℕ → Receipt → Desk → Taken
hear_answer peer receipt d =
    if nat_lt receipt.stamp limit then answer_of peer receipt.tx (clock_raised peer receipt.stamp d) else Beyond

-- without those that are final
abbrev pub without : List Tx → List (Tx × Slot) → List (Tx × Slot)
without finals held = filter (λ e. not (list_any (tx_eq e.0) finals)) held

-- these are final from now on, each once, and no longer held
abbrev pub settled : List Tx → Desk → Desk
settled txs d = record d { finals = insert_all tx_eq d.finals txs; held = without (insert_all tx_eq d.finals txs) d.held }

-- the answer to one that the log restores: it has no quota
abbrev pub restore_answer : Tx → Desk → Taken
restore_answer tx d = if is_final tx d then Final else if is_held tx d then Held else if is_late d then Full else New

abbrev pub restored : Tx → Desk → Desk
restored tx d = if is_new (restore_answer tx d) then stamped (next_stamp d) true (d.n + 1) tx d else d

abbrev pub receipt_of : ℕ → Tx × Slot → Receipt
receipt_of me e = record { tx = e.0; stamp = own_stamp me e }

-- the own receipts of held ones after a stamp, in their order, at most that many
abbrev pub receipts_after : ℕ → ℕ → Desk → List Receipt
receipts_after stamp most d = take most (map (receipt_of d.me) (filter (λ e. nat_lt stamp (own_stamp d.me e)) d.held))
