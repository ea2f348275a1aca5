use Rattle.std.proofs.Common.{◌≡◌, []}
use Rattle.crossbeam_queue.specs.SegTies.{IsSegPassOf}
use Rattle.mailbox.specs.Boxes.{senders_in}
use Rattle.mailbox.specs.Mail.{receiver}
use Rattle.mailbox.proofs.mailbox.deal.Given as goal

abbrev pub invariant-loop-from : goal.invariant-loop-from
invariant-loop-from l = IsSegPassOf l.queue l.first × (l.first.me.view.client ≡ receiver l.from [] []) × (l.passes.items ≡ senders_in l.queue 0 l.from)
