use Rattle.std.proofs.Common.{arith}
use Rattle.walks.proofs.SearchInvariant.{answers}
use Rattle.walks.proofs.reach.closure.Goals as goal

pub returns-clause-walks : goal.returns-clause-walks
returns-clause-walks c = answers c.args.graph.now c.loop-from.rows.items c.loop-from.invariant.0 (omega arith)
