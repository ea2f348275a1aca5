use Rattle.std.proofs.Common.{◌≡◌, ◌+◌, ◌++◌, drop}
use Rattle.std.specs.Prelude.{string_bytes}
use Rattle.report_text.specs.OrderPrint.{batch_lines}
use Rattle.report_text.proofs.lines.write_batches.Given as goal

abbrev pub invariant-loop-at : goal.invariant-loop-at
invariant-loop-at l = string_bytes l.text ++ batch_lines (l.at + 1) (drop l.at l.batches) ≡ string_bytes l.fn.text ++ batch_lines 1 l.batches
