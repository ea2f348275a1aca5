use Rattle.audit_laws.proofs.Lawful.{audited_lawful}
use Rattle.audit_laws.proofs.traces.audited_traces_are_lawful.Goals as goal

pub returns : goal.returns
returns c = (let lawful = audited_lawful c.distinct_replicas_are_counted.ensures c.the_first_place_is_found.ensures.none in record {
  reported = lawful;
  read = λ fits trace bytes traces each. lawful fits trace bytes traces (c.traces_hold_readable_events.ensures trace bytes traces each);
})
