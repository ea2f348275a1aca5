-- What holds at each moment of a lifetime.
use Rattle.std.specs.Prelude.{◌≡◌, ◌≢◌, ℕ, ◌<◌, List, true, All, Contains, get_or}
use Rattle.seq_base.specs.declared.tx.Tx.{Tx}
use Rattle.seq_base.specs.Setting.{Parameters, IsValid}
use Rattle.intake.specs.declared.slot.Slot.{Slot}
use Rattle.intake.specs.Keys.{unknown}
use Rattle.intake_laws.specs.Past.{Call, Past, names_replica}

-- the claim, where a replica of a valid setting made these calls, each of which names a replica
abbrev pub WhereCalls : Parameters → ℕ → List Call → Type 0 → Type 0
WhereCalls s r lifetime claim = IsValid s → r < s.n → All (λ call. names_replica s.n call ≡ true) lifetime → claim

-- Each stamp of each slot is a receipt that is known of that replica.
abbrev pub SlotsAreReported : Parameters → Past → Type 0
SlotsAreReported s p = (e : Tx × Slot) → Contains p.desk.held e → (i : ℕ) → i < 16 → get_or e.1.stamps i unknown ≢ unknown
    → (i < s.n) × Contains (p.receipts i) (record { tx = e.0; stamp = get_or e.1.stamps i unknown })
