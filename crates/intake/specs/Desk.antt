-- What a replica knows of receipts: its own clock, the clocks that it heard of, the transactions that it holds in the
-- order of their receipt, and those that are final.
use Rattle.std.specs.Prelude.{◌≡◌, ◌<◌, ◌≤◌, ◌+◌, ℕ, max, List, [], length, Bool, not, ◌==◌, is_some, Option, Some, None, if◌then◌else◌, filter, count_by, All, slice_index_or, replicate}
use Rattle.std.specs.List.{list_any}
use Rattle.std.specs.Map.{lookup, keys_of}
use Rattle.seq_base.specs.declared.tx.Tx.{Tx}
use Rattle.seq_base.specs.Tx.{tx_eq}
use Rattle.intake.specs.declared.slot.Slot.{Slot}
use Rattle.intake.specs.declared.slot.Standing.{Standing}
use Rattle.intake.specs.declared.slot.Standing.TheVariants.{Unknown, Waiting, Arrived, Final}
use Rattle.intake.specs.Keys.{limit, adopted_of}

pub record Desk : Type 0 where
  pub n : ℕ
  pub f : ℕ
  -- the own number
  pub me : ℕ
  pub clock : ℕ
  -- the greatest clock heard of each replica, the own one among them
  pub clocks : List ℕ
  -- in the order of receipt
  pub held : List (Tx × Slot)
  pub finals : List Tx

-- nothing received, nothing heard
abbrev pub opening : ℕ → ℕ → ℕ → Desk
opening n f me = record { n = n; f = f; me = me; clock = 0; clocks = replicate n 0; held = []; finals = [] }

abbrev pub is_final : Tx → Desk → Bool
is_final tx d = list_any (tx_eq tx) d.finals

-- what is known of a held transaction
abbrev pub slot_of : Tx → Desk → Option Slot
slot_of tx d = lookup (tx_eq tx) d.held

abbrev pub is_held : Tx → Desk → Bool
is_held tx d = is_some (slot_of tx d)

-- how many held ones are charged to a source: the own clients (the own number), a peer (its number), blocks (n), or the
-- log that restores them after a restart (n + 1)
abbrev pub charged_in : ℕ → List (Tx × Slot) → ℕ
charged_in source held = count_by (λ e. e.1.source == source) held

abbrev pub charged : ℕ → Desk → ℕ
charged source d = charged_in source d.held

-- how many own clients, a peer or the blocks may have held
abbrev pub quota : ℕ → Desk → ℕ
quota source d = if source == d.me then 16384 else 4096

-- the stamp of the next receipt: one more than the greater of the own and the adopted clock
unfoldable pub next_stamp : Desk → ℕ
next_stamp d = 1 + max d.clock (adopted_of d.f d.clocks)

abbrev pub own_stamp : ℕ → Tx × Slot → ℕ
own_stamp me e = slice_index_or e.1.stamps me 0

-- received, not arrived, not final
abbrev pub waits : Tx × Slot → Bool
waits e = not e.1.arrived

abbrev pub waiting : Desk → List (Tx × Slot)
waiting d = filter waits d.held

-- those that arrived
abbrev pub arrived_list : Desk → List Tx
arrived_list d = keys_of (filter (λ e. e.1.arrived) d.held)

abbrev pub standing_in : Option Slot → Standing
standing_in None = Unknown
standing_in (Some slot) = if slot.arrived then Arrived else Waiting

abbrev pub standing_of : Tx → Desk → Standing
standing_of tx d = if is_final tx d then Final else standing_in (slot_of tx d)

-- the invariant of each desk
pub record IsDesk (d : Desk) : Type 0 where
  pub few : d.n ≤ 16
  pub own : d.me < d.n
  pub clocks : length d.clocks ≡ d.n
  pub clocks_below : All (λ c. c < limit) d.clocks
  pub clock_below : d.clock < limit
  pub sources : All (λ e. e.1.source ≤ d.n + 1) d.held
  -- Own clients, each peer and the blocks have at most their quota held. Only the log bounds what it restored.
  pub within : (source : ℕ) → source ≤ d.n → charged source d ≤ quota source d

-- the counts that a desk stores: how many held ones each source has
abbrev pub AreCharges : List ℕ → List (Tx × Slot) → Type 0
AreCharges charges held = (length charges ≡ 18) × ((source : ℕ) → source ≤ 17 → slice_index_or charges source 0 ≡ charged_in source held)
