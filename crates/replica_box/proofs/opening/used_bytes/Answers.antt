use Rattle.std.proofs.Common.{arith}
use Rattle.std.proofs.lemmas.List.{length-drop}
use Rattle.replica_box.proofs.opening.used_bytes.Goals as goal

pub overflow_add-result : goal.overflow_add-result
overflow_add-result c = omega (arith, c.requires, c.if-log-lt-HEADER_BYTES.false, length-drop 76 c.args.log.now)

pub returns-else-log-lt-HEADER_BYTES-clause-within : goal.returns-else-log-lt-HEADER_BYTES-clause-within
returns-else-log-lt-HEADER_BYTES-clause-within c = omega (arith, c.requires, c.if-log-lt-HEADER_BYTES.false, length-drop 76 c.args.log.now)
