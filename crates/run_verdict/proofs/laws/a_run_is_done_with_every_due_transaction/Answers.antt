use Rattle.run_verdict.proofs.Dones.{done_shows, done_holds}
use Rattle.run_verdict.proofs.laws.a_run_is_done_with_every_due_transaction.Goals as goal

pub returns : goal.returns
returns c = λ run. (done_shows run, done_holds run)
