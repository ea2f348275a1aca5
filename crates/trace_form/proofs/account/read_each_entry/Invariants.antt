use Rattle.std.proofs.Common.{◌≡◌, [], ◌-◌}
use Rattle.trace_form.specs.Reading.{each_at}
use Rattle.trace_form.specs.Accounts.{entry_at}
use Rattle.trace_form.proofs.account.read_each_entry.Given as goal

-- What is left gives the whole.
abbrev pub invariant-loop-at : goal.invariant-loop-at
invariant-loop-at l = each_at (λ before. entry_at l.n) (l.count - l._at) l.entries.items l.rest ≡ each_at (λ before. entry_at l.n) l.count [] l.bytes
