-- What every arrival list of a plan is.
use Rattle.std.specs.Prelude.{◌≤◌, List, length, All}
use Rattle.seq_base.specs.declared.tx.Tx.{Tx}
use Rattle.seq_base.specs.Lists.{AreDistinct}
use Rattle.seq_base.specs.Tx.{FitsTx}

pub record IsArrivalList (txs : List Tx) : Type 0 where
  -- no transaction arrives twice
  pub distinct : AreDistinct txs
  -- each is within the widths of its fields
  pub each : All FitsTx txs
  -- they are at most as many as an arrival log holds
  pub few : length txs ≤ 65536
