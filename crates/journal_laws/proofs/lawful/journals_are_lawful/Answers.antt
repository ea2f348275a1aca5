use Rattle.journal_laws.proofs.Lawfulness.{is_lawful}
use Rattle.journal_laws.proofs.lawful.journals_are_lawful.Goals as goal

pub returns : goal.returns
returns c = λ gives by views me capacity events may.
    is_lawful (record {
      moves = record { locks = c.locks_and_commits_move_as_seen.ensures.lock; commits = c.locks_and_commits_move_as_seen.ensures.commit };
      stay = c.stored_blocks_stay.ensures;
      found = c.stored_blocks_are_found.ensures;
      good = c.good_certificates_have_quorums.ensures;
    }) c.a_state_stands_for_its_chain.ensures.step c.a_state_stands_for_its_chain.ensures.short gives by views me capacity events may
    (c.each_kind_is_sealed_once_a_view.ensures by.fits gives by.setting views me capacity events may.wide)
