use Rattle.replica_box.proofs.LogContinues.{turned_as}
use Rattle.replica_box.proofs.replica.Replica.turn.Goals as goal

pub returns-in-Ok-clause-turned : goal.returns-in-Ok-clause-turned
returns-in-Ok-clause-turned c =
    turned_as _ _ _ _ _ _ _ _ c.self.view_is c.event.ensures.value c.in-Ok.ensures.ok c.event.ensures.can c.requires c.in-Ok.ensures.gives
    c.take.ensures.taken c.take.ensures.reason
