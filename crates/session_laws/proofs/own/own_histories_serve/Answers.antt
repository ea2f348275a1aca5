use Rattle.session_laws.proofs.OwnStarts.{own_service}
use Rattle.session_laws.proofs.own.own_histories_serve.Goals as goal

pub returns : goal.returns
returns c = own_service
