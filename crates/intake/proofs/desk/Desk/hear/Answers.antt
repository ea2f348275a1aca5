use Rattle.std.proofs.Common.{◌∙◌, ap, slice_set}
use Rattle.std.proofs.lemmas.Result.{on_err_weaker}
use Rattle.intake.specs.Desk.{Desk}
use Rattle.intake.proofs.Desks.{clock_back}
use Rattle.intake.proofs.desk.Desk.hear.Goals as goal

pub returns-else-is_ok-clause-err : goal.returns-else-is_ok-clause-err
returns-else-is_ok-clause-err c =
    let before = c.raise-before.result in
    on_err_weaker c.receive-answer.result
    (λ same. c.set_clock.ensures
    ∙ ap (λ (d : Desk). record d { clocks = slice_set d.clocks c.args.peer before }) (same ∙ c.raise-before.ensures.raised)
    ∙ clock_back c.args.self.now c.args.peer c.args.receipt.stamp before c.raise-before.ensures.before)
    c.receive-answer.ensures.err
