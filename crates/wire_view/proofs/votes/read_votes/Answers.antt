use Rattle.std.proofs.Common.{arith, ℕ}
use Rattle.wire_view.proofs.Parts.{votes_exact}
use Rattle.wire_view.proofs.Steps.{held}
use Rattle.wire_view.proofs.votes.read_votes.Goals as goal

pub prefix-prefix-requires : goal.prefix-prefix-requires
prefix-prefix-requires c =
    (held (votes_exact c.args.count 0) c.args.bytes.now c.in_ok-rest.rest.now (λ i. omega (arith, c.type_inv.bytes i)) c.in_ok-rest.ensures).shorter

pub invariant_of-result : goal.invariant_of-result
invariant_of-result c =
    let h = held (votes_exact c.args.count 0) c.args.bytes.now c.in_ok-rest.rest.now (λ i. omega (arith, c.type_inv.bytes i)) c.in_ok-rest.ensures in
    rw c.prefix-prefix.ensures (c.requires, h.fits.count, h.again)

pub returns : goal.returns
returns c =
    let h = held (votes_exact c.args.count 0) c.args.bytes.now c.in_ok-rest.rest.now (λ i. omega (arith, c.type_inv.bytes i)) c.in_ok-rest.ensures in
    rw c.prefix-prefix.ensures h.read
