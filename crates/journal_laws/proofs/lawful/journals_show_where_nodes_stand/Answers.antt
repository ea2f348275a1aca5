use Rattle.journal_laws.proofs.Lawfulness.{stands}
use Rattle.journal_laws.proofs.lawful.journals_show_where_nodes_stand.Goals as goal

pub returns : goal.returns
returns c = stands (record {
  moves = record { locks = c.locks_and_commits_move_as_seen.ensures.lock; commits = c.locks_and_commits_move_as_seen.ensures.commit };
  stay = c.stored_blocks_stay.ensures;
  found = c.stored_blocks_are_found.ensures;
  good = c.good_certificates_have_quorums.ensures;
}) c.a_state_stands_for_its_chain.ensures.step c.a_state_stands_for_its_chain.ensures.short
