use Rattle.std.proofs.Common.{rules}
use Rattle.locked_log.proofs.Keeps.{begins_at}
use Rattle.locked_log.proofs.log.LockedLog.start.Goals as goal

pub new-requires : goal.new-requires
new-requires g c = begins_at g.L.Grows.list c.args.parts c.args.first c.of.result.value c.count.result c.push.new.self.items (search rules)
    (search rules) (search rules) c.requires
