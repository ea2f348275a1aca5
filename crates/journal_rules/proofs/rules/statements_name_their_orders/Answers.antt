use Rattle.std.proofs.Common.{get_or}
use Rattle.journal_rules.specs.Rules.{IsDrawn, order_named}
use Rattle.journal_rules.proofs.OrderNames.{replica_of_order, view_of_order, parent_of_order}
use Rattle.journal_rules.proofs.rules.statements_name_their_orders.Goals as goal

pub returns-clause-replica : goal.returns-clause-replica
returns-clause-replica c = replica_of_order

pub returns-clause-view : goal.returns-clause-view
returns-clause-view c = view_of_order

pub returns-clause-parent : goal.returns-clause-parent
returns-clause-parent c = parent_of_order

pub returns-clause-own : goal.returns-clause-own
returns-clause-own c = λ by before e takes draws. λ k d inside is. (let drawn : IsDrawn by before e (get_or e.turned.sealed k d) = draws k d inside is in
    record { order = order_named by before e (get_or e.turned.sealed k d); spelled = drawn.spelled; own = takes.own k d inside })
