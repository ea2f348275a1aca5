use Rattle.session_laws.proofs.FairHistories.{fair}
use Rattle.session_laws.proofs.histories.histories_are_fair.Goals as goal

pub returns : goal.returns
returns c fits sessions starts many service =
    fair fits sessions starts many service c.the_headline_holds.ensures.agree c.committed_chains_are_blocks.ensures.blocks
    c.committed_chains_are_blocks.ensures.list c.proposed_transactions_arrived.ensures c.blocks_stay_blocks_as_lists_grow.ensures
    c.final_lists_are_fair.ensures
