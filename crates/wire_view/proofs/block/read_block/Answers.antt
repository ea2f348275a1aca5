use Rattle.std.proofs.Common.{arith, ◌∙◌}
use Rattle.seq_base.specs.Spelling.{block_spelling}
use Rattle.wire_view.proofs.Exact.{prefix_by}
use Rattle.wire_view.proofs.Parts.{block_exact}
use Rattle.wire_view.proofs.block.read_block.Goals as goal

pub prefix-prefix-requires : goal.prefix-prefix-requires
prefix-prefix-requires c =
    (prefix_by c.args.bytes.now (block_spelling c.in_ok-block.block) c.in_ok-block.rest.now
    (block_exact.takes c.args.bytes.now c.in_ok-block.block c.in_ok-block.rest.now (λ i. omega (arith, c.type_inv.bytes i)) c.in_ok-block.ensures).0).0

pub invariant_of-result : goal.invariant_of-result
invariant_of-result c = c.prefix-prefix.ensures ∙ (prefix_by c.args.bytes.now (block_spelling c.in_ok-block.block) c.in_ok-block.rest.now
    (block_exact.takes c.args.bytes.now c.in_ok-block.block c.in_ok-block.rest.now (λ i. omega (arith, c.type_inv.bytes i)) c.in_ok-block.ensures).0).1
