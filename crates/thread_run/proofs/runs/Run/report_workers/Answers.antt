use Rattle.std.proofs.Common.{◌≡◌, List, ap, arith, length, refl, subst, sym}
use Rattle.std.specs.Prelude.{All}
use Rattle.std.specs.List.{AllZip}
use Rattle.std.specs.Vec.{with_items}
use Rattle.std.proofs.lemmas.List.{with_items_is}
use Rattle.client_logs.specs.Clients.{OfClient}
use Rattle.client_logs.specs.declared.client.Client.{Client as ClientWorker}
use Rattle.thread_run.specs.Exchange.{AreSeated, HeardFirst, ReportedClient, ReportedFirst, ReportedWorker}
use Rattle.thread_run.specs.Workers.{Ready, Working}
use Rattle.thread_run.proofs.Submissions.{reported_of}
use Rattle.client_logs.proofs.Zips.{zip_length}
use Rattle.thread_run.proofs.runs.Run.report_workers.Goals as goal

pub report_all-requires-clause-ready : goal.report_all-requires-clause-ready
report_all-requires-clause-ready g c κs within =
    let run = c.args.self.now in
    subst (All (Ready run.world.logs.items run.world.boxes.items)) (sym c.as_mut_slice.ensures.value) c.requires.ready

pub report_all-requires-clause-of : goal.report_all-requires-clause-of
report_all-requires-clause-of g c κs within = subst (All (OfClient c.args.self.now.world.logs.items)) (sym c.as_mut_slice-2.ensures.value) c.requires.of

pub report_all-requires-clause-drivers : goal.report_all-requires-clause-drivers
report_all-requires-clause-drivers g c κs within = c.requires.drivers

pub report_all-requires-clause-places : goal.report_all-requires-clause-places
report_all-requires-clause-places g c κs within =
    let logs = c.requires.logs in
    let workers = c.requires.workers in
    let len = ap length c.as_mut_slice.ensures.value in
    omega (arith, logs, workers, len)

pub report_all-requires-clause-seats : goal.report_all-requires-clause-seats
report_all-requires-clause-seats g c κs within = subst (AreSeated {S = g.row.S.Denot}) (sym c.as_mut_slice.ensures.value) c.requires.seats

pub returns : goal.returns
returns g c =
    let mid = c.args.self.now in
    let reported = c.report_all.ensures in
    let workers = c.report_all.new.workers in
    let clients = c.report_all.new.clients in
    let hears : AllZip ReportedWorker mid.workers.items workers =
    subst (λ (ws : List (Working g.row.S.Denot)). AllZip ReportedWorker ws workers) c.as_mut_slice.ensures.value reported.hears in
    let z = zip_length ReportedWorker mid.workers.items workers hears in
    let ok = mid.workers.ok.0 in
    let items : (with_items mid.workers workers).items ≡ workers = with_items_is mid.workers workers (omega (arith, z, ok)) in
    let heard : AllZip ReportedClient mid.clients.items clients =
    subst (λ (cs : List ClientWorker). AllZip ReportedClient cs clients) c.as_mut_slice-2.ensures.value reported.clients in
    let z' = zip_length ReportedClient mid.clients.items clients heard in
    let ok' = mid.clients.ok.0 in
    let items' : (with_items mid.clients clients).items ≡ clients = with_items_is mid.clients clients (omega (arith, z', ok')) in
    reported_of c.args.plan.now mid _ c.requires
    (subst (All (Ready mid.world.logs.items mid.world.boxes.items)) (sym items) reported.ready)
    (subst (All (OfClient mid.world.logs.items)) (sym items') reported.of)
    (subst (AllZip ReportedWorker mid.workers.items) (sym items) hears)
    (subst (AllZip ReportedClient mid.clients.items) (sym items') heard)
    reported.drivers
    reported.own
    (subst (λ (cs : List ClientWorker). ReportedFirst (length c.report_all.new.drivers.items) mid.drivers.items (with_items mid.workers workers).items cs)
    (sym items')
    (subst (λ (ws : List (Working g.row.S.Denot)). ReportedFirst (length c.report_all.new.drivers.items) mid.drivers.items ws clients)
    (sym items) reported.reported))
    (subst (λ (ws : List (Working g.row.S.Denot)). HeardFirst (length c.report_all.new.drivers.items) ws c.report_all.new.drivers.items)
    c.as_mut_slice.ensures.value reported.heard)
    refl
