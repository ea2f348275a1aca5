use Rattle.std.proofs.Common.{◌≡◌, [], ◌-◌}
use Rattle.trace_form.specs.Lists.{new_tx_at}
use Rattle.trace_form.specs.Reading.{each_at}
use Rattle.trace_form.specs.Seen.{Knows}
use Rattle.trace_form.proofs.fields.read_txs.Given as goal

-- What is left gives the whole.
abbrev pub invariant-loop-at : goal.invariant-loop-at
invariant-loop-at l = record {
  whole : each_at (new_tx_at l.distinct) (l.count - l._at) l.txs.items l.rest ≡ each_at (new_tx_at l.distinct) l.count [] l.bytes;
  knows : Knows l.distinct l.txs.items l.seen.keys;
}
