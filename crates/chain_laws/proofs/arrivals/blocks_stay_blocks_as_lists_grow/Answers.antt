use Rattle.chain_laws.proofs.LongerLists.{blocks_over_longer}
use Rattle.chain_laws.proofs.arrivals.blocks_stay_blocks_as_lists_grow.Goals as goal

pub returns : goal.returns
returns c = blocks_over_longer
