use Rattle.std.proofs.Common.{◌≡◌, [], ◌-◌}
use Rattle.trace_form.specs.Opening.{member_at}
use Rattle.trace_form.specs.Reading.{each_at}
use Rattle.trace_form.specs.Seen.{IsAboveAll}
use Rattle.trace_form.proofs.opening.read_members.Given as goal

-- What is left gives the whole.
abbrev pub invariant-loop-at : goal.invariant-loop-at
invariant-loop-at l = record {
  whole : each_at (member_at l.n) (l.count - l._at) l.faulty l.rest ≡ each_at (member_at l.n) l.count [] l.bytes;
  above : IsAboveAll l.least l.faulty;
}
