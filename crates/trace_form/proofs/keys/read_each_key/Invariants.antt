use Rattle.std.proofs.Common.{◌≡◌, [], ◌-◌}
use Rattle.trace_form.specs.Keys.{key_at}
use Rattle.trace_form.specs.Reading.{each_at}
use Rattle.trace_form.proofs.keys.read_each_key.Given as goal

-- What is left gives the whole.
abbrev pub invariant-loop-at : goal.invariant-loop-at
invariant-loop-at l = each_at (λ before. key_at) (l.n - l._at) l.keys.items l.rest ≡ each_at (λ before. key_at) l.n [] l.bytes
