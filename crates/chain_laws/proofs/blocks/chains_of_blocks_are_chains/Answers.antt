use Rattle.seq_base.specs.Setting.{Parameters}
use Rattle.chain_laws.proofs.ChainPremises.{Answers, unused}
use Rattle.chain_laws.proofs.PlacedChain.{Finishes, is_chain, final_parts}
use Rattle.chain_laws.proofs.blocks.chains_of_blocks_are_chains.Goals as goal

pub returns : goal.returns
returns c = record {
  chain = λ s faulty arrivals chain valid blocks. is_chain s valid faulty arrivals chain blocks (answers s);
  unused = λ s faulty arrivals chain valid blocks. unused s valid faulty arrivals chain blocks;
  finals = λ s faulty arrivals chain valid blocks. final_parts s valid faulty arrivals chain blocks (answers s) (finishes s);
}
  where
    answers : (s : Parameters) → Answers s
    answers s = record {
      stands = record { used = c.a_state_stands_for_its_chain.ensures.used s; waiting = c.a_state_stands_for_its_chain.ensures.waiting s };
      used_read = c.chains_are_read.ensures.used s;
      waiting_read = c.chains_are_read.ensures.waiting s;
      edges = c.proposals_have_first_edges.ensures.edges s;
      kept = c.computed_lists_are_kept.ensures.kept s;
    }

    finishes : (s : Parameters) → Finishes s
    finishes s = record {
      finals = c.a_state_stands_for_its_chain.ensures.finals s;
      finals_read = c.chains_are_read.ensures.finals s;
      graphs = c.proposals_have_first_edges.ensures.graphs s;
      batches = c.computed_lists_are_batches.ensures;
      one_kept = c.wanted_are_kept.ensures.one s;
    }
