use Rattle.std.proofs.Common.{◌≡◌, ◌++◌, not, filter}
use Rattle.std.specs.Prelude.{string_bytes}
use Rattle.std.specs.List.{flat_map, range_with_len}
use Rattle.count_set.specs.Sets.{is_among}
use Rattle.report_text.specs.AuditPrint.{total_in}
use Rattle.report_text.proofs.audit.write_totals.Given as goal

abbrev pub invariant-loop-replica : goal.invariant-loop-replica
invariant-loop-replica l = string_bytes l.text ≡ string_bytes l.fn.text
    ++ flat_map (total_in l.run) (filter (λ r. not (is_among l.run.faulty r)) (range_with_len 0 l.replica))
