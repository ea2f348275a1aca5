use Rattle.headline_laws.proofs.Idle.{idle_is_sound, waiting_is_sound}
use Rattle.headline_laws.proofs.examples.a_sound_record_may_be_idle.Goals as goal

pub returns-clause-idle : goal.returns-clause-idle
returns-clause-idle c = idle_is_sound

pub returns-clause-waiting : goal.returns-clause-waiting
returns-clause-waiting c = waiting_is_sound
