use Rattle.mailbox.specs.Boxes.{IsSenderOf}
use Rattle.tests_logs.proofs.boxes.send_all.Given as goal

abbrev pub invariant-loop-message : goal.invariant-loop-message
invariant-loop-message g l = IsSenderOf l.mailbox l.pass
