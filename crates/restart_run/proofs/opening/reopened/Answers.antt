use Rattle.replay_run.specs.Kept.{meant}
use Rattle.restart_run.proofs.Opened.{again}
use Rattle.restart_run.proofs.opening.reopened.Goals as goal

pub returns-in-Ok-clause-again : goal.returns-in-Ok-clause-again
returns-in-Ok-clause-again g c l r kept gives capacity =
    let k = g.K.Keeper in
    again (meant k) (g.C.Checker.meaning c.args.checker.now) c.args.plan.now l c.args.replica r
    c.args.keeping.now.keeper c.stop.new.self c.opened.new.keeper (g.S.Sealer.gives c.args.sealer) (g.S.Sealer.replica c.args.sealer)
    (g.S.Sealer.capacity c.args.sealer) c.keys_of.result _ _
    (record { whole = c.logs_are_read_back.ensures.whole; one = c.logs_are_read_back.ensures.one_prefix; size = c.logs_say_whose_they_are.ensures.size })
    kept c.requires.number c.keys_of.ensures gives capacity c.stop.ensures.bytes c.stop.ensures.openings c.in-Ok.ensures.opened
    c.in-Ok.ensures.durable_size c.in-Ok.ensures.openings
