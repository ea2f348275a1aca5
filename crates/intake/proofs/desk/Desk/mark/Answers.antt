use Rattle.intake.specs.Arriving.{marked_if}
use Rattle.intake.proofs.Desks.{slots_changed, charges_changed}
use Rattle.intake.proofs.Marks.{marked_source}
use Rattle.intake.proofs.desk.Desk.mark.Goals as goal

pub invariant_of-self : goal.invariant_of-self
invariant_of-self c =
    let k = c.k-k.result in
    let f = c.self.inside.f in
    let extra = c.args.extra.now in
    let same = marked_source k f c.args.bound extra in
    rw c.mark_if.ensures (
      charges_changed (marked_if k f c.args.bound extra) same c.self.inside.charges c.self.inside.held.entries c.self.invariant.0,
      slots_changed (marked_if k f c.args.bound extra) same c.self.invariant.1,
    )
