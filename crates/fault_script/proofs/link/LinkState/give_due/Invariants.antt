use Rattle.std.proofs.Common.{◌≡◌, ◌≤◌, ◌+◌, ◌++◌, length, vec_capacity, vec_len}
use Rattle.fault_script.specs.Passing.{due_of, left_of}
use Rattle.fault_script.proofs.link.LinkState.give_due.Given as goal

abbrev pub invariant-loop-bytes : goal.invariant-loop-bytes
invariant-loop-bytes l = record {
  given : l.given.items ++ due_of l.self.sent l.self.held ≡ l.initial.given.items ++ due_of l.initial.self.sent l.initial.self.held;
  left : left_of l.self.sent l.self.held ≡ left_of l.initial.self.sent l.initial.self.held;
  sent : l.self.sent ≡ l.initial.self.sent;
  script : l.self.script ≡ l.initial.self.script;
  room : vec_len l.given + length l.self.held ≤ vec_capacity l.given;
}

abbrev pub decreases-loop-bytes : goal.decreases-loop-bytes
decreases-loop-bytes l = length l.self.held
