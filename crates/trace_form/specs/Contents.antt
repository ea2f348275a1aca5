-- The contents of a trace: a record made bare, with how its seals are checked.
use Rattle.std.specs.Prelude.{ℕ, [], map, slice_index_or, if◌then◌else◌}
use Rattle.std.specs.List.{range_with_len}
use Rattle.count_set.specs.Sets.{is_among}
use Rattle.seal_kit.specs.declared.height.Height.{Height}
use Rattle.node_core.specs.declared.entry.Entry.{Entry}
use Rattle.run_record.specs.declared.record.RunRecord.{RunRecord}
use Rattle.trace_form.specs.declared.account.Account.{Account}
use Rattle.trace_form.specs.declared.contents.Contents.{Contents}
use Rattle.trace_form.specs.declared.keys.Keys.{Keys}
use Rattle.trace_form.specs.declared.opening.Opening.{Opening}
use Rattle.trace_form.specs.declared.opening.Span.{Span}
use Rattle.trace_form.specs.declared.trace.Trace.{Trace}

-- the account of a faulty replica: nothing is recorded
abbrev pub bare : Account
bare = record { journal = record { entries = [] }; head = record { view = 0; commit = 0 }; batches = [] }

-- the trace with these contents: its lists have one item for each account
abbrev pub trace_of : Contents → Trace
trace_of c = record {
  run = record {
    setting = c.opening.setting;
    faulty = c.opening.faulty;
    arrivals = c.arrivals;
    journals = map (λ (x : Account). x.journal) c.accounts;
    heads = map (λ (x : Account). x.head) c.accounts;
    batches = map (λ (x : Account). x.batches) c.accounts;
    turns = c.opening.turns;
    ticks = c.opening.ticks;
  };
  keys = c.opening.span.keys;
  height = c.opening.span.height;
  views = c.opening.span.views;
}

-- the sends of a turn are not recorded
abbrev pub without_sends : Entry → Entry
without_sends e = record { event = e.event; turned = record { reason = e.turned.reason; kept = e.turned.kept; sealed = e.turned.sealed; sends = [] } }

-- what a record has of a replica; if it has no such item, nothing
abbrev pub held_of : RunRecord → ℕ → Account
held_of run replica = record {
  journal = slice_index_or run.journals replica bare.journal;
  head = slice_index_or run.heads replica bare.head;
  batches = slice_index_or run.batches replica bare.batches;
}

abbrev pub sendless : Account → Account
sendless a = record { journal = record { entries = map without_sends a.journal.entries }; head = a.head; batches = a.batches }

-- the account of a replica
abbrev pub account_of : RunRecord → ℕ → Account
account_of run replica = if is_among run.faulty replica then bare else sendless (held_of run replica)

abbrev pub span_of : ℕ → Keys → Height → Span
span_of views keys height = record { views = views; keys = keys; height = height }

-- what a trace of a run records before its arrival lists
abbrev pub opening_of : RunRecord → Span → Opening
opening_of run span = record { setting = run.setting; span = span; turns = run.turns; ticks = run.ticks; faulty = run.faulty }

-- the contents of a run: one account for each replica of its setting
abbrev pub contents_of : RunRecord → Span → Contents
contents_of run span = record {
  opening = opening_of run span;
  arrivals = run.arrivals;
  accounts = map (account_of run) (range_with_len 0 run.setting.n);
}

-- the trace of a record: the record made bare
abbrev pub bared : RunRecord → Span → Trace
bared run span = trace_of (contents_of run span)
