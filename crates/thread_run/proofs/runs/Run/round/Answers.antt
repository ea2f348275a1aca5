use Rattle.std.proofs.Common.{◌≡◌, ◌≤◌, List, length, refl, sym, subst, ◌∙◌, arith}
use Rattle.std.specs.Prelude.{All}
use Rattle.std.specs.List.{AllZip}
use Rattle.std.specs.Vec.{with_items}
use Rattle.std.proofs.lemmas.List.{with_items_is}
use Rattle.client_logs.specs.declared.client.Client.{Client as ClientWorker}
use Rattle.replica_seat.specs.Seats.{meaning}
use Rattle.thread_run.specs.News.{Took}
use Rattle.thread_run.specs.Steps.{AreCounted, HasFew, most_in}
use Rattle.thread_run.specs.Workers.{ClientWorked, DeliversFew, Worked, Working}
use Rattle.thread_run.proofs.RoundLoop.{on_any}
use Rattle.thread_run.proofs.TurnBounds.{counted_all, most_within, stays_few, step_of, workers_few}
use Rattle.client_logs.proofs.Zips.{zip_length}
use Rattle.thread_run.proofs.runs.Run.round.Goals as goal

pub round-requires-clause-few : goal.round-requires-clause-few
round-requires-clause-few g c κs within =
    (let is = c.most_in-most.ensures in let le = most_within c.args.plan.now.turns c.args.self.now.turns in omega (arith, is, le))

pub turns_of-requires-clause-each : goal.turns_of-requires-clause-each
turns_of-requires-clause-each g c κs within =
    let self = c.args.self.now in
    let ws = c.round.new.workers in
    let few : AllZip (DeliversFew (most_in c.args.plan.now.turns self.turns)) self.workers.items ws =
    subst (λ (k : _). AllZip (DeliversFew k) self.workers.items ws) c.most_in-most.ensures
    (subst (λ (vs : List (Working g.row.S.Denot)). AllZip (DeliversFew c.most_in-most.result) vs ws) c.as_mut_slice.ensures.value c.round.ensures.few) in
    let z = zip_length (DeliversFew (most_in c.args.plan.now.turns self.turns)) self.workers.items ws few in
    let ok = self.workers.ok.0 in
    let items : (with_items self.workers ws).items ≡ ws = with_items_is self.workers ws (omega (arith, z, ok)) in
    subst (All (HasFew 1000000)) (sym (c.as_slice.ensures.value ∙ items)) (workers_few c.args.plan.now self ws c.requires.rules c.requires.counted few)

pub turns_of-requires-clause-few : goal.turns_of-requires-clause-few
turns_of-requires-clause-few g c κs within =
    let self = c.args.self.now in
    let ws = c.round.new.workers in
    let few = subst (λ (vs : List (Working g.row.S.Denot)). AllZip (DeliversFew c.most_in-most.result) vs ws)
    c.as_mut_slice.ensures.value c.round.ensures.few in
    let z = zip_length (DeliversFew c.most_in-most.result) self.workers.items ws few in
    let ok = self.workers.ok.0 in
    let items : (with_items self.workers ws).items ≡ ws = with_items_is self.workers ws (omega (arith, z, ok)) in
    let n = c.requires.manned.workers in
    let most = c.requires.rules.setting.replicas.few in
    subst (λ (vs : List (Working g.row.S.Denot)). length vs ≤ 32) (sym (c.as_slice.ensures.value ∙ items)) (omega (arith, z, n, most))

pub returns-clause-step : goal.returns-clause-step
returns-clause-step g c =
    let self = c.args.self.now in
    let ws = c.round.new.workers in
    let cs = c.round.new.clients in
    let fits = g.C.Checker.meaning c.args.checker.now in
    let m = meaning g.S.Sealer.replica g.S.Sealer.gives in
    let worked : AllZip (Worked fits c.args.plan.now m self.world.logs.items self.world.boxes.items c.args.tick) self.workers.items ws =
    subst (λ (vs : List (Working g.row.S.Denot)). AllZip (Worked fits c.args.plan.now m self.world.logs.items self.world.boxes.items c.args.tick) vs ws)
    c.as_mut_slice.ensures.value c.round.ensures.worked in
    let z = zip_length (Worked fits c.args.plan.now m self.world.logs.items self.world.boxes.items c.args.tick) self.workers.items ws worked in
    let took : AllZip (Took (most_in c.args.plan.now.turns self.turns) self.workers.items) self.workers.items ws =
    subst (λ (k : _). AllZip (Took k self.workers.items) self.workers.items ws) c.most_in-most.ensures
    (subst (λ (vs : List (Working g.row.S.Denot)). AllZip (Took c.most_in-most.result vs) vs ws) c.as_mut_slice.ensures.value c.round.ensures.took) in
    let went : AllZip (ClientWorked self.world.logs.items) self.clients.items cs =
    subst (λ (ds : List ClientWorker). AllZip (ClientWorked self.world.logs.items) ds cs) c.as_mut_slice-2.ensures.value c.round.ensures.went in
    let z' = zip_length (ClientWorked self.world.logs.items) self.clients.items cs went in
    let ok = self.workers.ok.0 in
    let ok' = self.clients.ok.0 in
    let items : (with_items self.workers ws).items ≡ ws = with_items_is self.workers ws (omega (arith, z, ok)) in
    let items' : (with_items self.clients cs).items ≡ cs = with_items_is self.clients cs (omega (arith, z', ok')) in
    let step = step_of fits c.args.plan.now m c.args.tick self ws cs _ refl items items' worked took went
    (subst (λ (vs : List (Working g.row.S.Denot)). AreCounted (length vs) c.in_ok-self.field-0 vs) (c.as_slice.ensures.value ∙ items) c.in_ok-self.ensures) in
    on_any c.clients_had_memory.result step

pub returns-clause-few : goal.returns-clause-few
returns-clause-few g c =
    let self = c.args.self.now in
    let ws = c.round.new.workers in
    let few : AllZip (DeliversFew (most_in c.args.plan.now.turns self.turns)) self.workers.items ws =
    subst (λ (k : _). AllZip (DeliversFew k) self.workers.items ws) c.most_in-most.ensures
    (subst (λ (vs : List (Working g.row.S.Denot)). AllZip (DeliversFew c.most_in-most.result) vs ws) c.as_mut_slice.ensures.value c.round.ensures.few) in
    let z = zip_length (DeliversFew (most_in c.args.plan.now.turns self.turns)) self.workers.items ws few in
    let ok = self.workers.ok.0 in
    let items : (with_items self.workers ws).items ≡ ws = with_items_is self.workers ws (omega (arith, z, ok)) in
    let all = counted_all c.in_ok-self.field-0 ws
    (subst (λ (vs : List (Working g.row.S.Denot)). AreCounted (length vs) c.in_ok-self.field-0 vs)
    (c.as_slice.ensures.value ∙ items) c.in_ok-self.ensures) in
    let bound = stays_few c.args.plan.now self ws c.requires.manned c.requires.counted few all.1 in
    let sum = all.0 in
    on_any c.clients_had_memory.result (omega (arith, bound, sum))
