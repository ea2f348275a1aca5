use Rattle.std.proofs.Common.{Err, ap, arith}
use Rattle.durable_node.specs.declared.reading.LogFault.{LogFault}
use Rattle.durable_node.proofs.Owners.{bad_within}
use Rattle.replica_box.proofs.opening.whole_records.Goals as goal

pub overflow_add-result : goal.overflow_add-result
overflow_add-result c =
    let within = bad_within c.args.start.now c.args.records.now c.in-Err-Bad.at
    (c.in-Err-Bad.ensures.bad c.in-Err-Bad.at (ap (λ (f : LogFault). Err f) c.in-Err-Bad.field-0-is)) in
    omega (arith, within)

pub returns-in-Err-NoMemory-clause-cause : goal.returns-in-Err-NoMemory-clause-cause
returns-in-Err-NoMemory-clause-cause c = c.in-Err-NoMemory.ensures.good (ap (λ (f : LogFault). Err f) c.in-Err-NoMemory.field-0-is)
