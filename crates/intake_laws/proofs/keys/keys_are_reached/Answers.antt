use Rattle.intake_laws.proofs.Turning.{key_is_reached}
use Rattle.intake_laws.proofs.keys.keys_are_reached.Goals as goal

pub returns : goal.returns
returns c = key_is_reached
