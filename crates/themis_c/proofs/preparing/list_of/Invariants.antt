-- The list holds the first transactions; the rest is left to be pushed.
use Rattle.std.proofs.Common.{◌≡◌, ◌++◌, map, drop}
use Rattle.themis_c.specs.Calls.{tx_of}
use Rattle.themis_c.proofs.preparing.list_of.Given as goal

abbrev pub invariant-loop-tx : goal.invariant-loop-tx
invariant-loop-tx l = l.list.items ++ map tx_of (drop l.tx-index l.fn.txs) ≡ map tx_of l.fn.txs
