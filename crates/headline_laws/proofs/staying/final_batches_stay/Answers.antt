use Rattle.headline_laws.proofs.JournalChains.{Laws}
use Rattle.headline_laws.proofs.Stays.{stays}
use Rattle.headline_laws.proofs.staying.final_batches_stay.Goals as goal

laws : goal.After-longer_chains_have_longer_lists → Laws
laws c = record {
  agreed = c.committed_chains_agree.ensures;
  kept = c.honest_prefixes_are_kept.ensures;
  commits = c.commits_are_stored.ensures;
  parents = c.chains_stand_on_parents.ensures;
  one_chain = c.stored_blocks_have_one_chain.ensures;
  spelled = c.no_bytes_spell_two_messages.ensures;
  replica = c.statements_name_their_orders.ensures.replica;
  view = c.statements_name_their_orders.ensures.view;
  parent = c.statements_name_their_orders.ensures.parent;
}

pub returns : goal.returns
returns c = λ fits run r before more after sound honest is. stays (laws c) c.longer_chains_have_longer_lists.ensures
    c.locks_and_commits_move_as_seen.ensures.commit fits run sound r honest before more after is
