use Rattle.std.proofs.Common.{◌≡◌, [], ◌-◌, length}
use Rattle.trace_form.specs.Accounts.{next_account_at}
use Rattle.trace_form.specs.Reading.{each_at}
use Rattle.trace_form.proofs.account.read_accounts.Given as goal

-- What is left gives the whole.
abbrev pub invariant-loop-replica : goal.invariant-loop-replica
invariant-loop-replica l = record {
  whole : each_at (next_account_at l.n l.faulty) (l.n - l.replica) l.accounts.items l.rest ≡ each_at (next_account_at l.n l.faulty) l.n [] l.bytes;
  many : length l.accounts.items ≡ l.replica;
}
