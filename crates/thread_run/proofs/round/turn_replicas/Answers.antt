use Rattle.std.proofs.Common.{rules, sym, subst}
use Rattle.replica_seat.specs.Seats.{meaning}
use Rattle.thread_run.proofs.Zips.{zip_of}
use Rattle.thread_run.specs.Workers.{DeliversFew, Drained, Ready, Worked, Working}
use Rattle.thread_run.proofs.round.turn_replicas.Goals as goal

pub returns-then-threads-gt0-clause-worked : goal.returns-then-threads-gt0-clause-worked
returns-then-threads-gt0-clause-worked g c =
    zip_of _ _ _ (search rules)
    (λ i d lt. (let k = (c.for_each_mut.ensures i d lt).1 in
    subst (λ (p : Working g.row.S.Denot × Working g.row.S.Denot). Worked (g.C.Checker.meaning c.args.checker.now) c.args.plan.now
    (meaning g.S.Sealer.replica g.S.Sealer.gives) c.args.world.now.logs.items c.args.world.now.boxes.items c.args.tick p.0 p.1)
    (λ j. (k.argument_is j, k.left j)) (let q = k.call in search rules)))

pub returns-then-threads-gt0-clause-few : goal.returns-then-threads-gt0-clause-few
returns-then-threads-gt0-clause-few g c =
    zip_of _ _ _ (search rules)
    (λ i d lt. (let k = (c.for_each_mut.ensures i d lt).1 in
    subst (λ (p : Working g.row.S.Denot × Working g.row.S.Denot). DeliversFew c.args.most p.0 p.1)
    (λ j. (k.argument_is j, k.left j)) (let q = k.call in search rules)))

pub returns-then-threads-gt0-clause-drained : goal.returns-then-threads-gt0-clause-drained
returns-then-threads-gt0-clause-drained g c =
    zip_of _ _ _ (search rules)
    (λ i d lt. (let k = (c.for_each_mut.ensures i d lt).1 in
    subst (λ (p : Working g.row.S.Denot × Working g.row.S.Denot). Drained c.args.most p.0 p.1)
    (λ j. (k.argument_is j, k.left j)) (let q = k.call in search rules)))

-- what the closure asks of a worker; and a sealer may be sent, a checker and the handle shared
pub for_each_mut-requires-clause-accepts : goal.for_each_mut-requires-clause-accepts
for_each_mut-requires-clause-accepts g c κs within = λ i p lt is.
    let ready = subst (Ready c.args.world.now.logs.items c.args.world.now.boxes.items) (sym is) (c.requires.ready i p.now lt) in
    let bounds = c.type_bounds in (
      ready,
      (
        c.requires.few,
        (
          record { owned = bounds.send-S.owned; leaving = λ k. search rules },
          record { shared = bounds.sync-C.shared },
          record { shared = bounds.sync-R.shared },
        ),
      ),
    )
