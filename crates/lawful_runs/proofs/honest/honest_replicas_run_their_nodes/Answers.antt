use Rattle.lawful_runs.proofs.Worlds.{ends_good}
use Rattle.lawful_runs.proofs.honest.honest_replicas_run_their_nodes.Goals as goal

pub returns : goal.returns
returns c = λ fits plan sealers steps at r made found honest. (ends_good fits plan sealers steps made).runs at r found honest
