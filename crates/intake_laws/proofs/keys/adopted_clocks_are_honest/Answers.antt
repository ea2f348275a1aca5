use Rattle.intake_laws.proofs.Turning.{adopted_is_honest}
use Rattle.intake_laws.proofs.keys.adopted_clocks_are_honest.Goals as goal

pub returns : goal.returns
returns c = adopted_is_honest
