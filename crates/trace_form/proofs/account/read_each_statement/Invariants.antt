use Rattle.std.proofs.Common.{◌≡◌, [], ◌-◌}
use Rattle.trace_form.specs.Reading.{each_at}
use Rattle.trace_form.specs.Lists.{bytes_at}
use Rattle.trace_form.proofs.account.read_each_statement.Given as goal

-- What is left gives the whole.
abbrev pub invariant-loop-at : goal.invariant-loop-at
invariant-loop-at l = each_at (λ before. bytes_at) (l.count - l._at) l.statements.items l.rest ≡ each_at (λ before. bytes_at) l.count [] l.bytes
