use Rattle.intake_laws.proofs.OneLifetimes.{in_order_without_restarts}
use Rattle.intake_laws.proofs.receipts.first_lifetimes_need_less.Goals as goal

pub returns : goal.returns
returns c = in_order_without_restarts
