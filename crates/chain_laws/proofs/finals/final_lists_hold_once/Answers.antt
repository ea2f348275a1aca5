use Rattle.std.specs.Prelude.{List, map, All}
use Rattle.std.specs.List.Sorted.{IsStrictlySortedBy}
use Rattle.std.proofs.Common.{sym, subst}
use Rattle.seq_base.specs.declared.tx.Tx.{Tx}
use Rattle.seq_base.specs.Lists.{AreDistinct}
use Rattle.seq_base.specs.Tx.{tx_cmp}
use Rattle.batch_laws.specs.Batches.{StandsIn}
use Rattle.chain_state.specs.Proposals.{joined}
use Rattle.chain_laws.specs.Blocks.{lists_in, placed}
use Rattle.chain_laws.proofs.Proposers.{proposes_at, at_proposes}
use Rattle.chain_laws.proofs.finals.final_lists_hold_once.Goals as goal

pub returns : goal.returns
returns c = record {
  one_batch = λ s faulty arrivals chain i j t valid blocks here there.
      let parts = c.chains_of_blocks_are_chains.ensures.finals s faulty arrivals chain valid blocks in
      c.batch_lists_hold_once.ensures.held s faulty arrivals (placed s chain) parts.0 i j t
      (c.chains_of_blocks_are_chains.ensures.chain s faulty arrivals chain valid blocks)
      (c.chains_of_blocks_are_chains.ensures.unused s faulty arrivals chain valid blocks) parts.1
      (subst (λ (list : List (List Tx)). StandsIn list i t) parts.2 here) (subst (λ (list : List (List Tx)). StandsIn list j t) parts.2 there);
  ascending = λ s faulty arrivals chain valid blocks.
      let parts = c.chains_of_blocks_are_chains.ensures.finals s faulty arrivals chain valid blocks in
      subst (λ (list : List (List Tx)). All (IsStrictlySortedBy tx_cmp) list) (sym parts.2)
      (c.batch_lists_hold_once.ensures.ascending s (placed s chain) parts.0 parts.1);
  distinct = λ s faulty arrivals chain valid blocks.
      subst (λ (list : List (List Tx)). AreDistinct (joined list)) (sym (c.a_state_stands_for_its_chain.ensures.finals s (map lists_in chain)))
      (c.final_lists_hold_each_once.ensures s (map lists_in chain) (c.chains_of_blocks_are_valid.ensures s faulty arrivals chain valid blocks));
  proposed = λ s faulty arrivals chain j t valid blocks here.
      let parts = c.chains_of_blocks_are_chains.ensures.finals s faulty arrivals chain valid blocks in
      let found = c.batch_lists_hold_once.ensures.proposer s (placed s chain) parts.0 j t parts.1
      (subst (λ (list : List (List Tx)). StandsIn list j t) parts.2 here) in
      (found.0, at_proposes s chain found.0 t found.1);
  one_block = λ s faulty arrivals chain one other t valid blocks first again.
      c.batch_lists_hold_once.ensures.proposed s faulty arrivals (placed s chain) one other t
      (c.chains_of_blocks_are_chains.ensures.chain s faulty arrivals chain valid blocks)
      (c.chains_of_blocks_are_chains.ensures.unused s faulty arrivals chain valid blocks)
      (proposes_at s chain one t first) (proposes_at s chain other t again);
}
