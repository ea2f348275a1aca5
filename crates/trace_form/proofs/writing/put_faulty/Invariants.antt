use Rattle.std.proofs.Common.{◌≡◌, ◌++◌, length}
use Rattle.std.specs.List.{flat_map, range_with_len}
use Rattle.std.specs.Int.{w8, to_be_bytes}
use Rattle.trace_form.specs.Texts.{member_text}
use Rattle.trace_form.proofs.writing.put_faulty.Given as goal

abbrev pub invariant-loop-replica : goal.invariant-loop-replica
invariant-loop-replica l = l.out.items ≡ (l.fn.out.items ++ to_be_bytes w8 (length l.faulty)) ++ flat_map (member_text l.faulty) (range_with_len 0 l.replica)
