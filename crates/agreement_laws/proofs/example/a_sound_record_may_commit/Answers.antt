use Rattle.std.proofs.Common.{refl}
use Rattle.agreement_laws.proofs.Small.{sound}
use Rattle.agreement_laws.proofs.example.a_sound_record_may_commit.Goals as goal

pub returns-clause-valid : goal.returns-clause-valid
returns-clause-valid c = c.a_lawful_history_may_fork.ensures.valid

pub returns-clause-sound : goal.returns-clause-sound
returns-clause-sound c = sound

pub returns-clause-committed : goal.returns-clause-committed
returns-clause-committed c = refl

pub returns-clause-chain : goal.returns-clause-chain
returns-clause-chain c = refl
