use Rattle.audit_laws.proofs.Heard.{heard_spelled, heard_bytes, heard_lawful, heard_stalled}
use Rattle.audit_laws.proofs.examples.a_passing_trace_may_hold_arrivals.Goals as goal

pub returns : goal.returns
returns c = record { spelled = heard_spelled; bytes = heard_bytes; lawful = heard_lawful; stalled = heard_stalled }
