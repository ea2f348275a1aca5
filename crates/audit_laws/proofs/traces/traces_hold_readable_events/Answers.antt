use Rattle.audit_laws.proofs.Readable.{reported_readably}
use Rattle.audit_laws.proofs.traces.traces_hold_readable_events.Goals as goal

pub returns : goal.returns
returns c = reported_readably (λ bytes m each read. (c.what_is_read_is_spelled.ensures bytes m each read).0)
