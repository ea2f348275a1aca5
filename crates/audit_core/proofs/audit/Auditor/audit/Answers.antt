use Rattle.audit_core.proofs.EntryAnswers.{rule_of, audited_of}
use Rattle.audit_core.proofs.NextPrefix.{Laws}
use Rattle.audit_core.proofs.audit.Auditor.audit.Goals as goal

pub returns-clause-rule : goal.returns-clause-rule
returns-clause-rule g c = λ by before same audited.
    let laws : Laws = record {
      moves = record { locks = c.locks_and_commits_move_as_seen.ensures.lock; commits = c.locks_and_commits_move_as_seen.ensures.commit };
      stay = c.stored_blocks_stay.ensures;
      found = c.stored_blocks_are_found.ensures;
      short = c.a_state_stands_for_its_chain.ensures.short;
    } in
    rule_of laws c.a_state_stands_for_its_chain.ensures.step c.good_certificates_have_quorums.ensures c.extending_is_by_parent_steps.ensures
    c.args.self.now c.keeps_its_rules.ensures
    (g.C.Checker.meaning c.args.checker.now) c.args.entry.now by before same audited c.audit_by_kept.result c.audit_by_kept.ensures.rule
    c.audit_by_kept.ensures.writable

pub returns-clause-goes_on : goal.returns-clause-goes_on
returns-clause-goes_on g c = λ by before same audited.
    let laws : Laws = record {
      moves = record { locks = c.locks_and_commits_move_as_seen.ensures.lock; commits = c.locks_and_commits_move_as_seen.ensures.commit };
      stay = c.stored_blocks_stay.ensures;
      found = c.stored_blocks_are_found.ensures;
      short = c.a_state_stands_for_its_chain.ensures.short;
    } in
    audited_of laws c.a_state_stands_for_its_chain.ensures.step c.good_certificates_have_quorums.ensures
    c.extending_is_by_parent_steps.ensures c.args.self.now c.keeps_its_rules.ensures
    (g.C.Checker.meaning c.args.checker.now) c.args.entry.now by before same audited c.audit_by_kept.result c.audit_by_kept.new.self
    c.audit_by_kept.ensures.rule c.audit_by_kept.ensures.writable
    c.audit_by_kept.ensures.next
