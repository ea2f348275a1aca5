use Rattle.std.proofs.Common.{rules}
use Rattle.thread_run.proofs.round.turn_all.Goals as goal

-- what the closures ask of the workers and the clients; and a sealer may be sent, a checker and the handle shared
pub join_mut-requires-after_bounds : goal.join_mut-requires-after_bounds
join_mut-requires-after_bounds g c κs within =
    let bounds = c.type_bounds in (
      (
        (
          record { shared = bounds.sync-R.shared },
          record { shared = bounds.sync-C.shared },
          record { owned = bounds.send-S.owned; leaving = λ k. search rules },
          c.requires.ready,
          c.requires.few,
        ),
        (
          record { owned = bounds.send-S.owned; leaving = λ k. search rules },
          record { shared = bounds.sync-C.shared },
          record { shared = bounds.sync-R.shared },
        ),
      ),
      ((record { shared = bounds.sync-R.shared }, c.requires.of), record { shared = bounds.sync-R.shared }),
    )
