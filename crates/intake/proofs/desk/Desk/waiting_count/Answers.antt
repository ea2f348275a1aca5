use Rattle.std.proofs.Common.{◌∙◌, ap, length, filter}
use Rattle.intake.specs.Desk.{Desk, waits}
use Rattle.intake.proofs.Desks.{waiting_length}
use Rattle.intake.proofs.desk.Desk.waiting_count.Goals as goal

pub returns : goal.returns
returns c =
    c.waiting_in.ensures ∙ waiting_length c.self.inside.held.entries
    ∙ ap (λ (d : Desk). length (filter waits d.held)) c.self.view_is
