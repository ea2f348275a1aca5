use Rattle.std.proofs.Common.{◌<◌, length, refl, arith}
use Rattle.std.proofs.lemmas.Bool.Decides.{nat_tests}
use Rattle.node_core.proofs.Effects.{arrival_changes}
use Rattle.node_core.proofs.node.Node.judge_arrival.Goals as goal

pub returns-else-is_empty : goal.returns-else-is_empty
returns-else-is_empty g c =
    let some : 0 < length c.args.list.now = grind (arith, nat_tests) in
    record { applies = refl; passed = tt; changes = arrival_changes c.args.self.now.state c.args.list.now some }
