use Rattle.fault_script.proofs.Held.{passes_are_link}
use Rattle.fault_script.proofs.laws.passes_are_link.Goals as goal

pub returns : goal.returns
returns c = passes_are_link
