use Rattle.session_laws.proofs.AuditedStarts.{audited_service}
use Rattle.session_laws.proofs.audited.audited_services_serve.Goals as goal

pub returns : goal.returns
returns c = audited_service
