use Rattle.std.proofs.Common.{◌≡◌, drop}
use Rattle.hotstuff_core.specs.Rules.{voted_in}
use Rattle.audit_core.specs.Voting.{votes_in, rises_from, last_view}
use Rattle.audit_core.proofs.ballots.vote_all.Given as goal

abbrev pub invariant-loop-statement : goal.invariant-loop-statement
invariant-loop-statement l =
    (rises_from l.lock_view l.safety.voted (votes_in (drop l.statement-index l.statements))
    ≡ rises_from l.lock_view l.initial.safety.voted (votes_in l.statements))
    × (l.safety ≡ voted_in l.safety.voted l.initial.safety)
    × (last_view l.safety.voted (votes_in (drop l.statement-index l.statements)) ≡ last_view l.initial.safety.voted (votes_in l.statements))
