-- The numbers of heights and of reasons.
use Rattle.std.specs.Prelude.{ℕ, Option, Some, None, ◌==◌, if◌then◌else◌}
use Rattle.seal_kit.specs.declared.height.Height.{Height}
use Rattle.seal_kit.specs.declared.height.Height.TheVariants.{H5, H10, H5H5, H5H10}
use Rattle.node_core.specs.declared.event.Reason.{Reason}
use Rattle.node_core.specs.declared.event.Reason.TheVariants.{Done, BadWire, Foreign, ViewLimit, NotLeader, OldView, BadSeal, BadCert, Orphan, Misfit, Clash, Unsafe, Repeat}

-- the height of a number: the levels of the one tree, or 500 and the levels of the lower trees
abbrev pub height_of : ℕ → Option Height
height_of code =
    if code == 5 then Some H5
    else if code == 10 then Some H10
    else if code == 505 then Some H5H5
    else if code == 510 then Some H5H10
    else None

abbrev pub code_of : Reason → ℕ
code_of Done = 0
code_of (BadWire fault) = 1
code_of Foreign = 2
code_of ViewLimit = 3
code_of NotLeader = 4
code_of OldView = 5
code_of BadSeal = 6
code_of BadCert = 7
code_of Orphan = 8
code_of Misfit = 9
code_of Clash = 10
code_of Unsafe = 11
code_of Repeat = 12
