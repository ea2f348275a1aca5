use Rattle.std.proofs.Common.{◌≡◌, take}
use Rattle.std.specs.List.{list_any}
use Rattle.seq_base.specs.declared.tx.Tx.{Tx}
use Rattle.seq_base.specs.Lists.{holds}
use Rattle.chain_state.specs.Keeping.{is_among}
use Rattle.chain_state.proofs.late.listed_in.Given as goal

abbrev pub invariant-loop-list : goal.invariant-loop-list
invariant-loop-list l = (t : Tx) → is_among l.listed.keys t ≡ list_any (holds t) (take l.list-index l.lists)
