-- The first transactions are written, and the rest of the buffer is as it was.
use Rattle.std.proofs.Common.{◌≡◌, ◌+◌, ◌++◌, map, take, drop}
use Rattle.themis_c.specs.Calls.{c_tx}
use Rattle.themis_c.proofs.arriving.put_from.Given as goal

abbrev pub invariant-loop-at : goal.invariant-loop-at
invariant-loop-at l = l.into ≡ take l.fn.start l.fn.into ++ map c_tx (take l.at l.fn.txs) ++ drop (l.fn.start + l.at) l.fn.into
