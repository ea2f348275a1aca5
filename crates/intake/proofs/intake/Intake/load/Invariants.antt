use Rattle.std.proofs.Common.{◌≡◌, ◌≤◌, count_by, not, take}
use Rattle.intake.proofs.intake.Intake.load.Given as goal

abbrev pub invariant-loop-tx : goal.invariant-loop-tx
invariant-loop-tx g l =
    (l.unproposed ≡ count_by (λ tx. not (g.C.Chain.proposes l.chain tx)) (take l.tx-index l.tx-items)) × (l.unexpected ≤ l.unproposed)
