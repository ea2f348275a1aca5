use Rattle.std.proofs.Common.{arith, ◌∙◌}
use Rattle.wire_view.proofs.Statements.{proposed_prefix}
use Rattle.wire_view.proofs.messages.read_proposal.Goals as goal

pub prefix-statement-requires : goal.prefix-statement-requires
prefix-statement-requires c =
    (proposed_prefix c.args.statement.now c.args.rest.now c.in_ok-replica.rest.now c.in_ok-block.rest.now c.in_ok-replica.replica
    c.in_ok-block.block (λ i. omega (arith, c.type_inv.statement i)) c.requires c.in_ok-replica.ensures.gives c.in_ok-block.ensures).0

pub invariant_of-proposal : goal.invariant_of-proposal
invariant_of-proposal c =
    c.prefix-statement.ensures
    ∙ (proposed_prefix c.args.statement.now c.args.rest.now c.in_ok-replica.rest.now c.in_ok-block.rest.now c.in_ok-replica.replica
    c.in_ok-block.block (λ i. omega (arith, c.type_inv.statement i)) c.requires c.in_ok-replica.ensures.gives c.in_ok-block.ensures).1
