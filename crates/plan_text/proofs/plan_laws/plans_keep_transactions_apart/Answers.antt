use Rattle.plan_text.proofs.Apart.{plans_keep_apart}
use Rattle.plan_text.proofs.plan_laws.plans_keep_transactions_apart.Goals as goal

pub returns : goal.returns
returns c = plans_keep_apart
