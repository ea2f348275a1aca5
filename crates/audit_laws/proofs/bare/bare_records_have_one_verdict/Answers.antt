use Rattle.audit_laws.proofs.Verdicts.{verdict_alike}
use Rattle.audit_laws.proofs.bare.bare_records_have_one_verdict.Goals as goal

pub returns : goal.returns
returns c = λ fits run span shape. verdict_alike run span shape fits
