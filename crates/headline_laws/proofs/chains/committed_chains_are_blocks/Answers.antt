use Rattle.headline_laws.proofs.DrawnChains.{are_blocks}
use Rattle.headline_laws.proofs.JournalChains.{Laws, batches_are, chains_agree}
use Rattle.headline_laws.proofs.chains.committed_chains_are_blocks.Goals as goal

laws : goal.After-statements_name_their_orders → Laws
laws c = record {
  agreed = c.committed_chains_agree.ensures;
  kept = c.honest_prefixes_are_kept.ensures;
  commits = c.commits_are_stored.ensures;
  parents = c.chains_stand_on_parents.ensures;
  one_chain = c.stored_blocks_have_one_chain.ensures;
  spelled = c.no_bytes_spell_two_messages.ensures;
  replica = c.statements_name_their_orders.ensures.replica;
  view = c.statements_name_their_orders.ensures.view;
  parent = c.statements_name_their_orders.ensures.parent;
}

pub returns-clause-blocks : goal.returns-clause-blocks
returns-clause-blocks c fits run i sound honest = are_blocks (laws c) fits run sound i honest

pub returns-clause-list : goal.returns-clause-list
returns-clause-list c fits run i sound honest = batches_are (laws c) fits run sound i honest

pub returns-clause-agree : goal.returns-clause-agree
returns-clause-agree c fits run sound = chains_agree (laws c) fits run sound
