use Rattle.std.proofs.Common.{◌≡◌, ◌++◌, take}
use Rattle.std.specs.Prelude.{string_bytes}
use Rattle.report_text.specs.OrderPrint.{after_spaces}
use Rattle.report_text.proofs.lines.write_after_spaces.Given as goal

abbrev pub invariant-loop-tx : goal.invariant-loop-tx
invariant-loop-tx l = string_bytes l.text ≡ string_bytes l.fn.text ++ after_spaces (take l.tx-index l.txs)
