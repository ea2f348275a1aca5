use Rattle.intake_laws.proofs.Turning.{adopted_is_reached}
use Rattle.intake_laws.proofs.keys.adopted_clocks_are_reached.Goals as goal

pub returns : goal.returns
returns c = adopted_is_reached
