use Rattle.std.proofs.Common.{arith, ◌∙◌}
use Rattle.wire_view.proofs.Statements.{vote_prefix}
use Rattle.wire_view.proofs.messages.read_vote.Goals as goal

pub prefix-statement-requires : goal.prefix-statement-requires
prefix-statement-requires c =
    (vote_prefix c.args.statement.now c.args.rest.now c.in_ok-replica.rest.now c.in_ok-view.rest.now
    c.in_ok-block.rest.now c.in_ok-replica.replica c.in_ok-view.view c.in_ok-block.block
    (λ i. omega (arith, c.type_inv.statement i)) c.requires c.in_ok-replica.ensures.gives c.in_ok-view.ensures c.in_ok-block.ensures).0

pub invariant_of-vote : goal.invariant_of-vote
invariant_of-vote c =
    c.prefix-statement.ensures
    ∙ (vote_prefix c.args.statement.now c.args.rest.now
    c.in_ok-replica.rest.now c.in_ok-view.rest.now c.in_ok-block.rest.now c.in_ok-replica.replica c.in_ok-view.view c.in_ok-block.block
    (λ i. omega (arith, c.type_inv.statement i)) c.requires c.in_ok-replica.ensures.gives c.in_ok-view.ensures c.in_ok-block.ensures).1
