use Rattle.std.proofs.Common.{arith}
use Rattle.trace_form.proofs.Whole.{is_found, is_only}
use Rattle.trace_form.proofs.reading.read_trace.Goals as goal

pub returns-clause-found : goal.returns-clause-found
returns-clause-found c = is_found c.args.bytes.now c.read_all.result (λ i. omega (arith, c.type_inv.bytes i)) c.read_all.ensures

pub returns-clause-only : goal.returns-clause-only
returns-clause-only c = λ trace spelled. is_only c.args.bytes.now trace c.read_all.result spelled c.read_all.ensures
