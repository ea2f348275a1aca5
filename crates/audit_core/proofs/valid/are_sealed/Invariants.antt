use Rattle.std.proofs.Common.{◌≡◌, drop}
use Rattle.std.specs.List.{list_all}
use Rattle.audit_core.specs.Valid.{order_on}
use Rattle.audit_core.proofs.valid.are_sealed.Given as goal

abbrev pub invariant-loop-k : goal.invariant-loop-k
invariant-loop-k g l =
    list_all (order_on (g.C.Checker.meaning l.checker) l.blocks l.view) l.view.orders
    ≡ list_all (order_on (g.C.Checker.meaning l.checker) l.blocks l.view) (drop l.k l.view.orders)
