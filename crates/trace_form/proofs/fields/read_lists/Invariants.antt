use Rattle.std.proofs.Common.{◌≡◌, [], ◌-◌}
use Rattle.trace_form.specs.Reading.{each_at}
use Rattle.trace_form.specs.Lists.{list_at}
use Rattle.trace_form.proofs.fields.read_lists.Given as goal

-- What is left gives the whole.
abbrev pub invariant-loop-at : goal.invariant-loop-at
invariant-loop-at l = each_at (λ before. list_at l.distinct) (l.count - l._at) l.lists.items l.rest ≡ each_at (λ before. list_at l.distinct) l.count [] l.bytes
