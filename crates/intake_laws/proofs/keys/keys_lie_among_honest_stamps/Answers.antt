use Rattle.intake_laws.proofs.Turning.{key_upper, key_lower}
use Rattle.intake_laws.proofs.keys.keys_lie_among_honest_stamps.Goals as goal

pub returns : goal.returns
returns c = record { upper = key_upper; lower = key_lower }
