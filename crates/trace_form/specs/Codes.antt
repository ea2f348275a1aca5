-- The codes of a trace: of heights and of reasons.
use Rattle.std.specs.Prelude.{ℕ, List, [], ◌∷◌, Option, Some, None, ◌==◌, slice_get, if◌then◌else◌}
use Rattle.seal_kit.specs.declared.height.Height.{Height}
use Rattle.seal_kit.specs.declared.height.Height.TheVariants.{H5, H10, H5H5, H5H10}
use Rattle.wire_view.specs.declared.fault.WireFault.TheVariants.{Short, Trailing, Kind, Version, Count, Shape}
use Rattle.node_core.specs.declared.event.Reason.{Reason}
use Rattle.node_core.specs.declared.event.Reason.TheVariants.{Done, BadWire, Foreign, ViewLimit, NotLeader, OldView, BadSeal, BadCert, Orphan, Misfit, Clash, Unsafe, Repeat}

abbrev pub height_code : Height → ℕ
height_code H5 = 1
height_code H10 = 2
height_code H5H5 = 3
height_code H5H10 = 4

abbrev pub height_named : ℕ → Option Height
height_named code = if code == 1 then Some H5 else (if code == 2 then Some H10 else (if code == 3 then Some H5H5 else (if code == 4 then Some H5H10 else None)))

abbrev pub reason_code : Reason → ℕ
reason_code Done = 0
reason_code (BadWire Short) = 1
reason_code (BadWire Trailing) = 2
reason_code (BadWire Kind) = 3
reason_code (BadWire Version) = 4
reason_code (BadWire Count) = 5
reason_code (BadWire Shape) = 6
reason_code Foreign = 7
reason_code ViewLimit = 8
reason_code NotLeader = 9
reason_code OldView = 10
reason_code BadSeal = 11
reason_code BadCert = 12
reason_code Orphan = 13
reason_code Misfit = 14
reason_code Clash = 15
reason_code Unsafe = 16
reason_code Repeat = 17

-- in the order of their codes
abbrev pub reasons : List Reason
reasons =
    Done ∷ BadWire Short ∷ BadWire Trailing ∷ BadWire Kind ∷ BadWire Version ∷ BadWire Count ∷ BadWire Shape ∷ Foreign ∷ ViewLimit ∷ NotLeader ∷ OldView
    ∷ BadSeal ∷ BadCert ∷ Orphan ∷ Misfit ∷ Clash ∷ Unsafe ∷ Repeat ∷ []

abbrev pub reason_named : ℕ → Option Reason
reason_named code = slice_get reasons code
