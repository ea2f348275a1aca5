use Rattle.std.proofs.Common.{◌≡◌, take}
use Rattle.thread_run.specs.Going.{DriverGoes, Tries}
use Rattle.thread_run.proofs.driver.Driver.submit_all.Given as goal

abbrev pub invariant-loop-tx : goal.invariant-loop-tx
invariant-loop-tx g l = record {
  goes : DriverGoes l.fn.self l.self;
  feed : l.self.feed ≡ l.fn.self.feed;
  tried : Tries (take l.tx-index l.txs) l.fn.self l.self;
}
