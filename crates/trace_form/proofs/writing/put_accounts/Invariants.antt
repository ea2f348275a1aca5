use Rattle.std.proofs.Common.{◌≡◌, ◌++◌}
use Rattle.std.specs.List.{flat_map, range_with_len}
use Rattle.trace_form.specs.Texts.{account_text}
use Rattle.trace_form.proofs.writing.put_accounts.Given as goal

abbrev pub invariant-loop-replica : goal.invariant-loop-replica
invariant-loop-replica l = l.out.items ≡ l.fn.out.items ++ flat_map (account_text l.run) (range_with_len 0 l.replica)
