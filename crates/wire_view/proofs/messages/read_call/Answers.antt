use Rattle.std.proofs.Common.{arith, ◌∙◌}
use Rattle.wire_view.proofs.Statements.{call_prefix}
use Rattle.wire_view.proofs.messages.read_call.Goals as goal

pub prefix-statement-requires : goal.prefix-statement-requires
prefix-statement-requires c =
    (call_prefix c.args.kind c.args.statement.now c.args.rest.now
    c.in_ok-replica.rest.now c.in_ok-view.rest.now c.in_ok-cert.rest.now c.in_ok-replica.replica c.in_ok-view.view c.in_ok-cert.cert
    (λ i. omega (arith, c.type_inv.statement i)) c.requires c.in_ok-replica.ensures.gives c.in_ok-view.ensures c.in_ok-cert.ensures).0

pub invariant_of-call : goal.invariant_of-call
invariant_of-call c =
    c.prefix-statement.ensures
    ∙ (call_prefix c.args.kind c.args.statement.now c.args.rest.now c.in_ok-replica.rest.now c.in_ok-view.rest.now
    c.in_ok-cert.rest.now c.in_ok-replica.replica c.in_ok-view.view c.in_ok-cert.cert
    (λ i. omega (arith, c.type_inv.statement i)) c.requires c.in_ok-replica.ensures.gives c.in_ok-view.ensures c.in_ok-cert.ensures).1
