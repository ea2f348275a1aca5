use Rattle.std.proofs.Common.{◌≡◌, All, length}
use Rattle.std.specs.List.{AllZip}
use Rattle.client_logs.specs.Clients.{OfClient}
use Rattle.locked_log.specs.History.{HasLooked}
use Rattle.thread_run.specs.Exchange.{HoldsFirst, ReportedClient}
use Rattle.thread_run.proofs.exchange.hear_all.Given as goal

abbrev pub invariant-loop-at : goal.invariant-loop-at
invariant-loop-at l = record {
  of : All (OfClient l.world.logs.items) l.clients;
  hears : AllZip ReportedClient l.fn.clients l.clients;
  heard : HasLooked l.fn.driver l.driver;
  holds : HoldsFirst l.at l.driver.seen l.clients;
  len : length l.clients ≡ length l.fn.clients;
}
