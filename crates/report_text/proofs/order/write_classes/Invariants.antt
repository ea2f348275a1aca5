use Rattle.std.proofs.Common.{◌≡◌, ◌++◌, take}
use Rattle.std.specs.Prelude.{string_bytes}
use Rattle.std.specs.List.{flat_map}
use Rattle.seq_base.specs.Lists.{holds}
use Rattle.tx_class.specs.Tally.{class_in, count_in}
use Rattle.report_text.specs.OrderPrint.{class_line}
use Rattle.report_text.proofs.order.write_classes.Given as goal

abbrev pub invariant-loop-tx : goal.invariant-loop-tx
invariant-loop-tx l = string_bytes l.text ≡ string_bytes l.fn.text
    ++ flat_map (λ t. class_line (class_in l.classes t) (holds t l.kept) t (count_in l.classes t)) (take l.tx-index l.listed)
