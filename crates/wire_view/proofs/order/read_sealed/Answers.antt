use Rattle.std.proofs.Common.{arith, ◌∙◌}
use Rattle.seq_base.specs.declared.kinds.TheConstants.{ORDER}
use Rattle.wire_view.proofs.Exact.{prefix_with}
use Rattle.wire_view.proofs.Parts.{order_exact}
use Rattle.wire_view.proofs.order.read_sealed.Goals as goal

pub prefix-statement-requires : goal.prefix-statement-requires
prefix-statement-requires c =
    (prefix_with (order_exact c.args.least) ORDER c.args.rest.now c.args.statement.now c.in_ok-order.order c.in_ok-order.rest.now
    (λ i. omega (arith, c.type_inv.rest i)) c.requires.kind c.in_ok-order.ensures).0

pub invariant_of-sealed : goal.invariant_of-sealed
invariant_of-sealed c =
    c.prefix-statement.ensures ∙ (prefix_with (order_exact c.args.least) ORDER c.args.rest.now c.args.statement.now c.in_ok-order.order
    c.in_ok-order.rest.now (λ i. omega (arith, c.type_inv.rest i)) c.requires.kind c.in_ok-order.ensures).1
