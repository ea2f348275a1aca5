use Rattle.run_verdict.proofs.Truth.{verdict_shows}
use Rattle.run_verdict.proofs.laws.verdicts_show_what_is_so.Goals as goal

pub returns : goal.returns
returns c = λ check run. verdict_shows check run
