use Rattle.std.proofs.Common.{ap, ◌∙◌}
use Rattle.chain_state.specs.Lists.{lists_of}
use Rattle.chain_state.specs.Standings.{Standings, applied}
use Rattle.chain_store.proofs.blocks.StoredBlocks.chain_with.Goals as goal

pub returns : goal.returns
returns c = c.in_ok-apply.ensures.ok ∙ ap (λ (s : Standings). applied s (lists_of c.args.block.now)) c.in_ok-chain.ensures
