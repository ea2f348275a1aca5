use Rattle.intake_laws.proofs.Logs.{five_is_valid, arrivals_are}
use Rattle.intake_laws.proofs.LogPremises.{heard_in_order_there, in_order_there}
use Rattle.intake_laws.proofs.examples.premises_are_met.Goals as goal

pub returns : goal.returns
returns c = record { valid = five_is_valid; heard = heard_in_order_there; in_order = in_order_there; arrivals = arrivals_are }
