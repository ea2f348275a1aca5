use Rattle.audit_laws.proofs.Alike.{audited_alike}
use Rattle.audit_laws.proofs.bare.bare_records_are_audited_alike.Goals as goal

pub returns : goal.returns
returns c = audited_alike
