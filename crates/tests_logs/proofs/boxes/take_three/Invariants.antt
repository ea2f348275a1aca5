use Rattle.mailbox.specs.Boxes.{IsReceiverOf}
use Rattle.tests_logs.proofs.boxes.take_three.Given as goal

abbrev pub invariant-loop : goal.invariant-loop
invariant-loop g l = IsReceiverOf l.mailbox l.receiver
