-- The first receipts are written, and the rest of the buffer is as it was.
use Rattle.std.proofs.Common.{◌≡◌, ◌++◌, map, take, drop}
use Rattle.themis_c.specs.Receipts.{c_receipt}
use Rattle.themis_c.proofs.received.put_receipts.Given as goal

abbrev pub invariant-loop-at : goal.invariant-loop-at
invariant-loop-at l = l.into ≡ map c_receipt (take l.at l.fn.receipts) ++ drop l.at l.fn.into
