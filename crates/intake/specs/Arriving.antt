-- Which waiting transactions arrive: all, or those with the smallest keys, and of some others those that pass no smaller
-- key than their own low stamp.
use Rattle.std.specs.Prelude.{ℕ, List, map, Bool, true, false, ◌&&◌, ◌||◌, nat_lt, nat_le, if◌then◌else◌, filter, IsPermutation, IsSorted}
use Rattle.std.specs.List.{list_any}
use Rattle.std.specs.Option.{option_map_or}
use Rattle.std.specs.Ordering.{nat_cmp, ordering_then, is_le}
use Rattle.std.specs.declared.cmp.Ordering.{Ordering}
use Rattle.std.specs.Map.{keys_of}
use Rattle.seq_base.specs.declared.tx.Tx.{Tx}
use Rattle.seq_base.specs.Tx.{tx_eq, tx_cmp}
use Rattle.intake.specs.declared.slot.Slot.{Slot}
use Rattle.intake.specs.declared.slot.Keyed.{Keyed}
use Rattle.intake.specs.declared.slot.Bound.{Bound}
use Rattle.intake.specs.declared.slot.Bound.TheVariants.{All, To}
use Rattle.intake.specs.Desk.{Desk, waits, waiting, slot_of}
use Rattle.intake.specs.Receiving.{with_slot}
use Rattle.intake.specs.Keys.{unknown, k_of, key_of, low_of}

-- by key, then by transaction
abbrev pub keyed_cmp : Keyed → Keyed → Ordering
keyed_cmp a b = ordering_then (nat_cmp a.key b.key) (tx_cmp a.tx b.tx)

abbrev pub keyed : ℕ → Tx × Slot → Keyed
keyed k e = record { key = key_of k e.1.stamps; tx = e.0 }

abbrev pub is_known : Keyed → Bool
is_known x = nat_lt x.key unknown

-- An unknown key is within no bound but All.
abbrev pub is_within : ℕ → Bound → Tx × Slot → Bool
is_within k All e = true
is_within k (To key tx) e = is_known (keyed k e) && is_le (keyed_cmp (keyed k e) (record { key = key; tx = tx }))

-- Everything with a key below its low stamp is within the bound.
abbrev pub is_low : ℕ → Bound → Tx × Slot → Bool
is_low f All e = true
is_low f (To key tx) e = nat_lt (low_of f e.1.stamps) unknown && nat_le (low_of f e.1.stamps) key

-- whether a held transaction is one of those that the bound or the extra list lets in
abbrev pub comes : ℕ → ℕ → Bound → List Tx → Tx × Slot → Bool
comes k f bound extra e = is_within k bound e || (is_low f bound e && list_any (tx_eq e.0) extra)

-- the waiting ones that are let in, in the order of receipt
abbrev pub arriving : Bound → List Tx → Desk → List Tx
arriving bound extra d = keys_of (filter (comes (k_of d.n) d.f bound extra) (waiting d))

abbrev pub marked : Slot → Slot
marked slot = record slot { arrived = true }

abbrev pub marked_if : ℕ → ℕ → Bound → List Tx → Tx × Slot → Tx × Slot
marked_if k f bound extra e = if waits e && comes k f bound extra e then (e.0, marked e.1) else e

-- the same, marked as arrived
abbrev pub arrived : Bound → List Tx → Desk → Desk
arrived bound extra d = record d { held = map (marked_if (k_of d.n) d.f bound extra) d.held }

-- an exception: one waiting transaction is marked as arrived, whatever its key
abbrev pub given : Tx → Desk → Desk
given tx d = with_slot tx marked d

-- whether a transaction waits
abbrev pub is_waiting : Tx → Desk → Bool
is_waiting tx d = option_map_or (λ slot. waits (tx, slot)) (slot_of tx d) false

-- the waiting ones with a known key
abbrev pub candidates : Desk → List Keyed
candidates d = filter is_known (map (keyed (k_of d.n)) (waiting d))

-- exactly these, ascending by key and transaction
pub record AreOrdered (d : Desk) (list : List Keyed) : Type 0 where
  pub exact : IsPermutation (candidates d) list
  pub ascending : IsSorted keyed_cmp list
