-- The history of a chain of sessions for C, and what each status says of a batch that is added to it, and of what arrived.
use Rattle.std.specs.Prelude.{◌≡◌, ◌⊎◌, ℕ, List, [], position, Bool, Option, Some, None, if◌then◌else◌}
use Rattle.seq_base.specs.declared.tx.Tx.{Tx}
use Rattle.session_rules.specs.Final.{AreNew, ComesFirst, HaveNoOtherMarker, MayFollow, is_other_marker, left_of}
use Rattle.themis_c.specs.declared.TheConstants.{OK, NO_MEMORY}
use Rattle.themis_c.specs.declared.sessions.TheConstants.{ALREADY_FINAL, OTHER_MARKER, NOT_CARRIED}

-- what is final in the history that a handle holds, as the keys of a set
abbrev pub final_in : Option (List Tx) → List Tx
final_in None = []
final_in (Some keys) = keys

abbrev pub bit_of : Bool → ℕ
bit_of is = if is then 1 else 0

-- What each status says of a batch that is added, by a test for what is final before it, and which position it leaves. No other
-- status is returned, and NO_MEMORY may stand in place of each.
abbrev pub IsAddStatus : ℕ → (Tx → Bool) → List Tx → ℕ → ℕ → Type 0
IsAddStatus status known batch old new =
    ((status ≡ OK) × AreNew known batch × (new ≡ old))
    ⊎ ((status ≡ ALREADY_FINAL) × (position known batch ≡ Some new))
    ⊎ ((status ≡ NO_MEMORY) × (new ≡ old))

-- The same of what arrived at a replica in a session, after what arrived at it in the session before.
abbrev pub IsCheckStatus : ℕ → ℕ → (Tx → Bool) → List Tx → List Tx → ℕ → ℕ → Type 0
IsCheckStatus status session known before arrived old new =
    ((status ≡ OK) × MayFollow known before arrived × HaveNoOtherMarker session arrived × (new ≡ old))
    ⊎ ((status ≡ ALREADY_FINAL) × (position known arrived ≡ Some new))
    ⊎ ((status ≡ OTHER_MARKER) × AreNew known arrived × (position (is_other_marker session) arrived ≡ Some new))
    ⊎ ((status ≡ NOT_CARRIED) × AreNew known arrived × HaveNoOtherMarker session arrived × (¬ ComesFirst (left_of known before) arrived) × (new ≡ old))
    ⊎ ((status ≡ NO_MEMORY) × (new ≡ old))
