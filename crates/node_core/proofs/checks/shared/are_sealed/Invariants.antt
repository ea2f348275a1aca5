use Rattle.std.proofs.Common.{◌≡◌, drop}
use Rattle.std.specs.List.{list_all}
use Rattle.node_core.specs.Rows.{is_sealed}
use Rattle.node_core.proofs.checks.shared.are_sealed.Given as goal

abbrev pub invariant-loop-k : goal.invariant-loop-k
invariant-loop-k g l = list_all (is_sealed (g.C.Checker.meaning l.checker)) l.block.orders
    ≡ list_all (is_sealed (g.C.Checker.meaning l.checker)) (drop l.k l.block.orders)
