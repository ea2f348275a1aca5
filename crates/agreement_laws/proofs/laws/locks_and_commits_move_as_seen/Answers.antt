use Rattle.agreement_laws.proofs.LockSteps.{lock_moves, commit_moves}
use Rattle.agreement_laws.proofs.laws.locks_and_commits_move_as_seen.Goals as goal

pub returns-clause-lock : goal.returns-clause-lock
returns-clause-lock c = lock_moves

pub returns-clause-commit : goal.returns-clause-commit
returns-clause-commit c = commit_moves
