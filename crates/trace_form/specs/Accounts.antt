-- Reading the account of a replica: its entries, its head and its batches.
use Rattle.std.specs.Prelude.{ℕ, List, [], length, true, false, Err, ◌==◌, nat_lt, nat_le, if◌then◌else◌}
use Rattle.std.specs.Int.{w32}
use Rattle.seq_base.specs.declared.tx.Tx.{Tx}
use Rattle.count_set.specs.Sets.{is_among}
use Rattle.node_core.specs.declared.event.Event.{Event}
use Rattle.node_core.specs.declared.event.Event.TheVariants.{Arrived, Deliver, Tick}
use Rattle.node_core.specs.declared.event.Reason.{Reason}
use Rattle.node_core.specs.declared.entry.Entry.{Entry}
use Rattle.run_record.specs.declared.record.Head.{Head}
use Rattle.wire_view.specs.Reading.{◌>>=◌, give}
use Rattle.trace_form.specs.declared.account.Account.{Account}
use Rattle.trace_form.specs.Codes.{reason_named}
use Rattle.trace_form.specs.Contents.{bare}
use Rattle.trace_form.specs.Lists.{list_at, bytes_at}
use Rattle.trace_form.specs.Reading.{TraceReader, byte_at, number_at, checked, coded_at, each_at}

unfoldable pub arrived_at : TraceReader Event
arrived_at = do
  list ← list_at true
  give (Arrived list)

unfoldable pub delivered_at : ℕ → TraceReader Event
delivered_at n = do
  from ← checked (λ r. nat_lt r n) byte_at
  bytes ← bytes_at
  give (Deliver from bytes)

unfoldable pub tick_at : TraceReader Event
tick_at = do
  floor ← number_at w32
  give (Tick floor)

-- an event, after its kind
abbrev pub after_kind : ℕ → ℕ → ℕ → TraceReader Event
after_kind left n kind = if kind == 1 then arrived_at else (if kind == 2 then delivered_at n else (if kind == 3 then tick_at else (λ bytes. Err left)))

unfoldable pub event_at : ℕ → TraceReader Event
event_at n bytes = (byte_at >>= after_kind (length bytes) n) bytes

unfoldable pub reason_at : TraceReader Reason
reason_at = coded_at reason_named

unfoldable pub statements_at : TraceReader (List (List ℕ))
statements_at = do
  count ← checked (λ k. nat_le k 2) byte_at
  each_at (λ before. bytes_at) count []

abbrev pub entry : Event → Reason → ℕ → List (List ℕ) → Entry
entry event reason kept sealed = record { event = event; turned = record { reason = reason; kept = kept; sealed = sealed; sends = [] } }

unfoldable pub entry_at : ℕ → TraceReader Entry
entry_at n = do
  event ← event_at n
  reason ← reason_at
  kept ← number_at w32
  sealed ← statements_at
  give (entry event reason kept sealed)

unfoldable pub entries_at : ℕ → TraceReader (List Entry)
entries_at n = do
  count ← number_at w32
  each_at (λ before. entry_at n) count []

unfoldable pub head_at : TraceReader Head
head_at = do
  view ← number_at w32
  commit ← number_at w32
  give (record { view = view; commit = commit })

unfoldable pub batches_at : TraceReader (List (List Tx))
batches_at = do
  count ← number_at w32
  each_at (λ before. list_at false) count []

unfoldable pub account_at : ℕ → TraceReader Account
account_at n = do
  entries ← entries_at n
  head ← head_at
  batches ← batches_at
  give (record { journal = record { entries = entries }; head = head; batches = batches })

-- the account of a replica, after its entries
unfoldable pub next_account_at : ℕ → List ℕ → List Account → TraceReader Account
next_account_at n faulty before = if is_among faulty (length before) then give bare else account_at n
