use Rattle.trace_audit.proofs.Passing.{promised}
use Rattle.trace_audit.proofs.laws.passing_traces_are_ordered.Goals as goal

pub returns : goal.returns
returns c =
    promised c.what_is_read_is_spelled.ensures c.audited_traces_are_lawful.ensures.read c.audited_runs_are_ordered.ensures.read
    c.verdicts_show_sound_records.ensures
