use Rattle.std.proofs.Common.{◌≡◌, All, [], length, map}
use Rattle.std.specs.List.{AllZip}
use Rattle.mailbox.specs.Boxes.{receiver_in}
use Rattle.thread_run.specs.Starting.{IsDealt, rows_in}
use Rattle.thread_run.proofs.start.open_boxes.Given as goal

abbrev pub invariant-loop-at : goal.invariant-loop-at
invariant-loop-at l = record {
  count : length l.boxes.items ≡ l.at;
  senders : All (λ x. x.senders ≡ l.fn.n) l.boxes.items;
  takes : l.takes.items ≡ map (λ x. receiver_in x []) l.boxes.items;
  passes : AllZip (IsDealt l.fn.n) l.boxes.items (rows_in l.passes.items);
}
