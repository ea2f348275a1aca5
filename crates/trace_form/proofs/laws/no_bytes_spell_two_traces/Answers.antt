use Rattle.trace_form.proofs.Whole.{one_trace}
use Rattle.trace_form.proofs.laws.no_bytes_spell_two_traces.Goals as goal

pub returns : goal.returns
returns c = one_trace
