use Rattle.std.proofs.Common.{◌∷◌, ◌∙◌, arith, subst}
use Rattle.std.proofs.lemmas.List.Elements.{All-tail}
use Rattle.std.proofs.lemmas.Result.{IfOk-weaker}
use Rattle.locked_log.specs.History.{IsPassOf}
use Rattle.arrival_log.specs.Arrivals.{IsArrivals}
use Rattle.thread_run.specs.Finishing.{column, rows_of}
use Rattle.thread_run.proofs.JoinedPasses.{list_is}
use Rattle.thread_run.proofs.finish.list_of.Goals as goal

pub join-requires-clause-other : goal.join-requires-clause-other
join-requires-clause-other c = c.requires.passes.of 1 c.args.worker (omega arith)

pub join_clients-requires-clause-passes : goal.join_clients-requires-clause-passes
join_clients-requires-clause-passes c =
    let rest = column 0 (rows_of c.args.clients.now.items) in
    All-tail (IsPassOf c.args.log) c.args.worker rest (All-tail (IsPassOf c.args.log) c.args.driver.pass (c.args.worker ∷ rest) c.requires.passes.of)

pub returns-clause-list : goal.returns-clause-list
returns-clause-list c =
    IfOk-weaker _ _ _
    (λ list is. list_is c.args.driver.pass c.args.worker c.join.new.pass c.join_clients.new.pass (column 0 (rows_of c.args.clients.now.items)) list
    c.join.ensures.joined c.join.ensures.seen c.join.ensures.reported c.join_clients.ensures.joined c.finish.ensures.own
    (subst IsArrivals c.finish.ensures.list c.finish.ensures.arrivals) (is ∙ c.finish.ensures.list))
    c.txs-2.ensures
