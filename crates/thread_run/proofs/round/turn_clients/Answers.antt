use Rattle.std.proofs.Common.{rules, sym, subst}
use Rattle.client_logs.specs.Clients.{OfClient}
use Rattle.client_logs.specs.declared.client.Client.{Client as ClientWorker}
use Rattle.thread_run.proofs.Zips.{zip_of}
use Rattle.thread_run.specs.Workers.{ClientWorked}
use Rattle.thread_run.proofs.round.turn_clients.Goals as goal

pub returns-then-threads-gt0 : goal.returns-then-threads-gt0
returns-then-threads-gt0 g c =
    zip_of _ _ _ (search rules)
    (λ i d lt. (let k = (c.for_each_mut.ensures i d lt).1 in
    subst (λ (p : ClientWorker × ClientWorker). ClientWorked c.args.world.now.logs.items p.0 p.1)
    (λ j. (k.argument_is j, k.left j)) (let q = k.call in search rules)))

-- what the closure asks of a client
pub for_each_mut-requires-clause-accepts : goal.for_each_mut-requires-clause-accepts
for_each_mut-requires-clause-accepts g c κs within = λ i p lt is. subst (OfClient c.args.world.now.logs.items) (sym is) (c.requires i p.now lt)
