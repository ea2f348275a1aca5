use Rattle.std.proofs.Common.{◌≡◌, ◌++◌, length, take}
use Rattle.std.specs.List.{flat_map}
use Rattle.std.specs.Int.{w8, to_be_bytes}
use Rattle.trace_form.specs.Spelling.{bytes_spelling}
use Rattle.trace_form.proofs.put.put_statements.Given as goal

abbrev pub invariant-loop-statement : goal.invariant-loop-statement
invariant-loop-statement l =
    l.out.items ≡ l.fn.out.items ++ (to_be_bytes w8 (length l.statements) ++ flat_map bytes_spelling (take l.statement-index l.statements))
