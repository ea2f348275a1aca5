use Rattle.std.proofs.Common.{◌≡◌, ◌≤◌, length, take}
use Rattle.intake.specs.Offered.{AreWaiting, given_all}
use Rattle.intake.proofs.intake.Intake.give_all.Given as goal

abbrev pub invariant-loop-at : goal.invariant-loop-at
invariant-loop-at l = record {
  waiting : AreWaiting (take l.kept l.given.items) l.fn.self;
  desk : l.self-inside.desk ≡ given_all (take l.kept l.given.items) l.fn.self;
  few : l.kept ≤ l.at;
  same_length : length l.given.items ≡ length l.fn.given.items;
}
