use Rattle.std.proofs.Common.{rules, ◌≡◌, ◌<◌, ◌≤◌, length, get_or, refl, sym, subst, ◌∙◌, arith}
use Rattle.std.proofs.lemmas.List.{length-set}
use Rattle.std.proofs.lemmas.Option.{get_or_from_slice_get, slice_get-get_or}
use Rattle.client_logs.proofs.OneTransaction.{the_one}
use Rattle.locked_log.specs.History.{IsPassOf}
use Rattle.thread_run.specs.Exchange.{DriverHears, IsDriverOf, ReportedAt, ReportedWorker}
use Rattle.thread_run.specs.declared.driver.Driver.{Driver}
use Rattle.thread_run.proofs.DriverLog.{own_heard}
use Rattle.thread_run.proofs.LogNews.{clients_hear, clients_self, drivers_on, drivers_self, heard_more, reported_more, seated_on, workers_hear, workers_self}
use Rattle.client_logs.proofs.Zips.{zip_at, zip_length, zip_set}
use Rattle.thread_run.proofs.exchange.report_all.Goals as goal

pub loop-k-init : goal.loop-k-init
loop-k-init g c = record {
  ready = c.requires.ready;
  of = c.requires.of;
  hears = workers_self c.args.workers.now;
  clients = clients_self c.args.clients.now;
  drivers = drivers_self c.args.drivers.now.items;
  own = c.requires.drivers;
  seats = c.requires.seats;
  reported = λ j d lt. absurd (omega (arith, lt));
  heard = λ j d lt. absurd (omega (arith, lt));
  len = refl;
  count = search rules;
}

pub report_log-requires-clause-place : goal.report_log-requires-clause-place
report_log-requires-clause-place g c κs within =
    let i = c.loop-k.invariant in
    let z = zip_length IsDriverOf _ _ i.own in
    let t = c.loop-k-test.true in
    let n = i.count in
    let l = i.len in
    let p = c.requires.places in
    (omega (arith, z, t, n), omega (arith, z, t, n, l, p))

pub report_log-requires-clause-driver : goal.report_log-requires-clause-driver
report_log-requires-clause-driver g c κs within = λ d.
    let i = c.loop-k.invariant in
    let t = c.loop-k-test.true in
    let n = i.count in
    let lt : c.loop-k.k < length c.loop-k.drivers.items = omega (arith, t, n) in
    let there = zip_at IsDriverOf c.args.world.now.logs.items c.loop-k.drivers.items c.loop-k.k d c.index_mut.result.now i.own lt in
    subst (λ (e : Driver). IsPassOf (get_or c.args.world.now.logs.items c.loop-k.k d) e.pass) (sym c.index_mut.ensures.value) there.0

pub report_log-requires-clause-parts : goal.report_log-requires-clause-parts
report_log-requires-clause-parts g c κs within =
    let i = c.loop-k.invariant in
    let t = c.loop-k-test.true in
    let n = i.count in
    let z = zip_length IsDriverOf _ _ i.own in
    let lt : c.loop-k.k < length c.loop-k.drivers.items = omega (arith, t, n) in
    let log = the_one c.args.world.now.logs.items c.loop-k.k (omega (arith, lt, z)) in
    let there = zip_at IsDriverOf c.args.world.now.logs.items c.loop-k.drivers.items c.loop-k.k log c.index_mut.result.now i.own lt in
    subst (λ (e : Driver). 2 ≤ e.pass.parts) (sym c.index_mut.ensures.value) there.1

pub loop-k-preserved : goal.loop-k-preserved
loop-k-preserved g c =
    let i = c.loop-k.invariant in
    let e = c.report_log.ensures in
    let t = c.loop-k-test.true in
    let n = i.count in
    let z = zip_length IsDriverOf _ _ i.own in
    let first = c.args.drivers.now.items in
    let drivers = c.loop-k.drivers.items in
    let workers = c.loop-k.workers in
    let logs = c.args.world.now.logs.items in
    let k = c.loop-k.k in
    let r : Driver = c.index_mut.result.now in
    let reported : Driver = record { pass = c.report_log.new.driver; feed = r.feed; fault = r.fault } in
    let lt : k < length drivers = omega (arith, t, n) in
    let log = the_one logs k (omega (arith, lt, z)) in
    let hears : DriverHears r reported = record { looked = e.heard; feed = refl; fault = refl } in
    let here : DriverHears (get_or drivers k r) reported = subst (λ (d : Driver). DriverHears d reported) c.index_mut.ensures.value hears in
    let lens = zip_length ReportedWorker _ _ e.hears in
    let len = i.len in
    let p = c.requires.places in
    let within : k < length c.report_log.new.workers = omega (arith, lt, z, lens, len, p) in record {
      ready = e.ready;
      of = e.of;
      hears = workers_hear c.args.workers.now workers c.report_log.new.workers i.hears e.hears;
      clients = clients_hear c.args.clients.now c.loop-k.clients c.report_log.new.clients i.clients e.clients;
      drivers = drivers_on first drivers k r reported i.drivers here;
      own = zip_set IsDriverOf logs drivers k log reported i.own
          (own_heard (get_or logs k log) (get_or drivers k r) reported here (zip_at IsDriverOf logs drivers k log r i.own lt));
      seats = seated_on workers c.report_log.new.workers e.hears i.seats;
      reported = reported_more first drivers c.loop-k.clients c.report_log.new.clients workers c.report_log.new.workers k i.drivers
          e.clients e.hears lt within i.reported
          (λ d. (let same : get_or drivers k d ≡ r =
          get_or_from_slice_get drivers k (get_or drivers k r) d (slice_get-get_or drivers k r lt) ∙ sym c.index_mut.ensures.value in
          subst (λ (x : Driver). ReportedAt k x.pass.seen c.report_log.new.workers c.report_log.new.clients) (sym same) e.reported));
      heard = heard_more c.args.workers.now workers drivers k reported i.hears lt i.heard e.back;
      len = sym lens ∙ i.len;
      count = i.count ∙ sym (length-set drivers k reported);
    }

pub returns-clause-reported : goal.returns-clause-reported
returns-clause-reported g c = λ j d lt.
    let i = c.loop-k.invariant in
    let t = c.loop-k-test.false in
    let n = i.count in
    i.reported j d (omega (arith, t, n, lt))

pub returns-clause-heard : goal.returns-clause-heard
returns-clause-heard g c = λ j d lt.
    let i = c.loop-k.invariant in
    let t = c.loop-k-test.false in
    let n = i.count in
    i.heard j d (omega (arith, t, n, lt))
