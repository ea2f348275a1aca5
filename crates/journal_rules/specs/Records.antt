-- What the record of a run holds for each replica.
use Rattle.std.specs.Prelude.{ℕ, List, [], get_or, slice_get}
use Rattle.std.specs.Option.{option_map_or}
use Rattle.seq_base.specs.declared.tx.Tx.{Tx}
use Rattle.node_core.specs.declared.entry.Entry.{Entry}
use Rattle.run_record.specs.declared.record.Head.{Head}
use Rattle.run_record.specs.declared.record.Journal.{Journal}
use Rattle.run_record.specs.declared.record.RunRecord.{RunRecord}

-- the entries of a replica's journal
abbrev pub journal_in : RunRecord → ℕ → List Entry
journal_in run replica = option_map_or (λ (journal : Journal). journal.entries) (slice_get run.journals replica) []

-- the arrival list of a replica
abbrev pub arrivals_in : RunRecord → ℕ → List Tx
arrivals_in run replica = get_or run.arrivals replica []

-- the batches that a replica has finalised
abbrev pub batches_in : RunRecord → ℕ → List (List Tx)
batches_in run replica = get_or run.batches replica []

-- the view of a replica's committed block, as its head reports it
abbrev pub commit_in : RunRecord → ℕ → ℕ
commit_in run replica = option_map_or (λ (head : Head). head.commit) (slice_get run.heads replica) 0
