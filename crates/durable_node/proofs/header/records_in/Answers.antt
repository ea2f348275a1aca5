use Rattle.std.proofs.Common.{sym, arith}
use Rattle.std.proofs.lemmas.List.{drop_all}
use Rattle.durable_node.proofs.header.records_in.Goals as goal

pub returns-then-log-lt-HEADER_BYTES : goal.returns-then-log-lt-HEADER_BYTES
returns-then-log-lt-HEADER_BYTES c = sym (drop_all 76 c.args.log.now (omega (arith, c.if-log-lt-HEADER_BYTES.true)))
