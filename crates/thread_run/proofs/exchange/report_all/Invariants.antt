use Rattle.std.proofs.Common.{◌≡◌, All, length}
use Rattle.std.specs.List.{AllZip}
use Rattle.client_logs.specs.Clients.{OfClient}
use Rattle.thread_run.specs.Exchange.{AreSeated, DriverHears, HeardFirst, IsDriverOf, ReportedClient, ReportedFirst, ReportedWorker}
use Rattle.thread_run.specs.Workers.{Ready}
use Rattle.thread_run.proofs.exchange.report_all.Given as goal

abbrev pub invariant-loop-k : goal.invariant-loop-k
invariant-loop-k g l = record {
  ready : All (Ready l.world.logs.items l.world.boxes.items) l.workers;
  of : All (OfClient l.world.logs.items) l.clients;
  hears : AllZip ReportedWorker l.fn.workers l.workers;
  clients : AllZip ReportedClient l.fn.clients l.clients;
  drivers : AllZip DriverHears l.fn.drivers.items l.drivers.items;
  own : AllZip IsDriverOf l.world.logs.items l.drivers.items;
  seats : AreSeated l.workers;
  reported : ReportedFirst l.k l.fn.drivers.items l.workers l.clients;
  heard : HeardFirst l.k l.fn.workers l.drivers.items;
  len : length l.workers ≡ length l.fn.workers;
  count : l.count ≡ length l.drivers.items;
}
