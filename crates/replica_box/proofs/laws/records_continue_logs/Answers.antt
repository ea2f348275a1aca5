use Rattle.replica_box.proofs.LogLines.{lined, opened, records, taken}
use Rattle.replica_box.proofs.laws.records_continue_logs.Goals as goal

pub returns : goal.returns
returns c = record { opened = opened; prepared = lined; taken = taken; records = records }
