use Rattle.std.proofs.Common.{◌≡◌, ◌-◌}
use Rattle.std.specs.List.{range_with_len}
use Rattle.run_record.specs.Done.{due_of}
use Rattle.run_verdict.specs.Verdicts.{all_list}
use Rattle.run_verdict.proofs.judging.is_record_done.Given as goal

abbrev pub invariant-loop-replica : goal.invariant-loop-replica
invariant-loop-replica l =
    let due = due_of l.run.setting.n l.run.faulty l.run.arrivals in
    all_list l.run due (range_with_len l.replica (l.n - l.replica)) ≡ all_list l.run due (range_with_len 0 l.n)
