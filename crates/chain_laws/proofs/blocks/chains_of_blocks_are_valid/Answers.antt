use Rattle.chain_laws.proofs.Validity.{is_valid_chain}
use Rattle.chain_laws.proofs.blocks.chains_of_blocks_are_valid.Goals as goal

pub returns : goal.returns
returns c = λ s faulty arrivals chain valid blocks.
    is_valid_chain s valid faulty arrivals chain blocks
    (record { used = c.a_state_stands_for_its_chain.ensures.used s; waiting = c.a_state_stands_for_its_chain.ensures.waiting s })
    (c.valid_chains_grow.ensures s)
