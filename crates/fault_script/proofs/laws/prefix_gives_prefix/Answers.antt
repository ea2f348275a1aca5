use Rattle.std.proofs.Common.{[]}
use Rattle.fault_script.proofs.Held.{link_goes_on}
use Rattle.fault_script.proofs.laws.prefix_gives_prefix.Goals as goal

pub returns : goal.returns
returns c = λ script sends more. link_goes_on script [] sends more
