-- What a mark or a stamp leaves of an entry.
use Rattle.std.proofs.Common.{◌≡◌, ◌==◌, ◌&&◌, ℕ, List, Bool, true, false, refl, if◌then◌else◌, slice_index_or, slice_set}
use Rattle.seq_base.specs.declared.tx.Tx.{Tx}
use Rattle.seq_base.specs.Tx.{tx_eq}
use Rattle.intake.specs.declared.slot.Slot.{Slot}
use Rattle.intake.specs.declared.slot.Bound.{Bound}
use Rattle.intake.specs.Keys.{unknown}
use Rattle.intake.specs.Desk.{waits}
use Rattle.intake.specs.Receiving.{with_stamp, changed_at}
use Rattle.intake.specs.Arriving.{comes, marked, marked_if}

module _ (k f : ℕ) (bound : Bound) (extra : List Tx) where
  pub marked_key : (e : Tx × Slot) → (marked_if k f bound extra e).0 ≡ e.0
  marked_key e = by (waits e && comes k f bound extra e)
    where
      by : (c : Bool) → (let m : Tx × Slot = if c then (e.0, marked e.1) else e in m.0) ≡ e.0
      by true = refl
      by false = refl

  pub marked_source : (e : Tx × Slot) → (marked_if k f bound extra e).1.source ≡ e.1.source
  marked_source e = by (waits e && comes k f bound extra e)
    where
      by : (c : Bool) → (let m : Tx × Slot = if c then (e.0, marked e.1) else e in m.1.source) ≡ e.1.source
      by true = refl
      by false = refl

-- a change of one slot leaves each source, where it leaves its own
pub changed_source : (tx : Tx) (f : Slot → Slot) → ((slot : Slot) → (f slot).source ≡ slot.source) → (e : Tx × Slot) → (changed_at tx f e).1.source ≡ e.1.source
changed_source tx f same e = by (tx_eq tx e.0)
  where
    by : (c : Bool) → (let m : Tx × Slot = if c then (e.0, f e.1) else e in m.1.source) ≡ e.1.source
    by true = same e.1
    by false = refl

pub stamp_source : (peer stamp : ℕ) (slot : Slot) → (with_stamp peer stamp slot).source ≡ slot.source
stamp_source peer stamp slot = by (slice_index_or slot.stamps peer 0 == unknown)
  where
    by : (c : Bool) → (let s : Slot = if c then record slot { stamps = slice_set slot.stamps peer stamp } else slot in s.source) ≡ slot.source
    by true = refl
    by false = refl
