-- The bytes of a trace. All numbers are big-endian.
use Rattle.std.specs.Prelude.{ℕ, suc, ◌++◌, List, [], ◌∷◌, length, if◌then◌else◌}
use Rattle.std.specs.List.{flat_map}
use Rattle.std.specs.Int.{w8, w16, w32, w64, to_be_bytes}
use Rattle.seq_base.specs.declared.tx.Tx.{Tx}
use Rattle.seq_base.specs.Setting.{Parameters}
use Rattle.seq_base.specs.Spelling.{tx_spelling}
use Rattle.count_set.specs.Sets.{is_among}
use Rattle.seal_kit.specs.declared.height.Height.{Height}
use Rattle.node_core.specs.declared.event.Event.{Event}
use Rattle.node_core.specs.declared.event.Event.TheVariants.{Arrived, Deliver, Tick}
use Rattle.node_core.specs.declared.entry.Entry.{Entry}
use Rattle.run_record.specs.declared.record.Head.{Head}
use Rattle.trace_form.specs.declared.account.Account.{Account}
use Rattle.trace_form.specs.declared.contents.Contents.{Contents}
use Rattle.trace_form.specs.declared.keys.Keys.{Keys}
use Rattle.trace_form.specs.declared.keys.Keys.TheVariants.{Seed, Public}
use Rattle.trace_form.specs.declared.opening.Opening.{Opening}
use Rattle.trace_form.specs.declared.opening.Span.{Span}
use Rattle.trace_form.specs.Codes.{height_code, reason_code}
use Rattle.trace_form.specs.Keys.{magic, form_of}

abbrev pub list_spelling : List Tx → List ℕ
list_spelling txs = to_be_bytes w32 (length txs) ++ flat_map tx_spelling txs

abbrev pub bytes_spelling : List ℕ → List ℕ
bytes_spelling bytes = to_be_bytes w32 (length bytes) ++ bytes

unfoldable pub setting_spelling : Parameters → List ℕ
setting_spelling s = to_be_bytes w8 s.n ++ to_be_bytes w8 s.f ++ to_be_bytes w16 s.p ++ to_be_bytes w16 s.q

-- the keys and the height: a seed stands before the height, public keys after it, one after another
abbrev pub keys_spelling : Keys → Height → List ℕ
keys_spelling (Seed seed) height = to_be_bytes w64 seed ++ to_be_bytes w8 (height_code height)
keys_spelling (Public keys) height = to_be_bytes w8 (height_code height) ++ flat_map (λ key. key) keys

unfoldable pub span_spelling : Span → List ℕ
span_spelling s = to_be_bytes w32 s.views ++ keys_spelling s.keys s.height

unfoldable pub faulty_spelling : List ℕ → List ℕ
faulty_spelling faulty = to_be_bytes w8 (length faulty) ++ flat_map (to_be_bytes w8) faulty

abbrev pub event_spelling : Event → List ℕ
event_spelling (Arrived list) = 1 ∷ list_spelling list
event_spelling (Deliver from bytes) = 2 ∷ to_be_bytes w8 from ++ bytes_spelling bytes
event_spelling (Tick floor) = 3 ∷ to_be_bytes w32 floor

abbrev pub statements_spelling : List (List ℕ) → List ℕ
statements_spelling statements = to_be_bytes w8 (length statements) ++ flat_map bytes_spelling statements

abbrev pub entry_spelling : Entry → List ℕ
entry_spelling e =
    event_spelling e.event ++ to_be_bytes w8 (reason_code e.turned.reason) ++ to_be_bytes w32 e.turned.kept ++ statements_spelling e.turned.sealed

unfoldable pub entries_spelling : List Entry → List ℕ
entries_spelling entries = to_be_bytes w32 (length entries) ++ flat_map entry_spelling entries

unfoldable pub head_spelling : Head → List ℕ
head_spelling head = to_be_bytes w32 head.view ++ to_be_bytes w32 head.commit

unfoldable pub batches_spelling : List (List Tx) → List ℕ
batches_spelling batches = to_be_bytes w32 (length batches) ++ flat_map list_spelling batches

abbrev pub account_spelling : Account → List ℕ
account_spelling a = entries_spelling a.journal.entries ++ (head_spelling a.head ++ batches_spelling a.batches)

-- nothing is spelled of a faulty replica; the first of these has this number
abbrev pub accounts_spelling : List ℕ → ℕ → List Account → List ℕ
accounts_spelling faulty replica [] = []
accounts_spelling faulty replica (a ∷ accounts) =
    (if is_among faulty replica then [] else account_spelling a) ++ accounts_spelling faulty (suc replica) accounts

-- the fields before the arrival lists
unfoldable pub opening_spelling : Opening → List ℕ
opening_spelling o =
    magic (form_of o.span.keys) ++ setting_spelling o.setting ++ span_spelling o.span ++ to_be_bytes w32 o.turns ++ to_be_bytes w32 o.ticks
    ++ faulty_spelling o.faulty

unfoldable pub contents_spelling : Contents → List ℕ
contents_spelling c = opening_spelling c.opening ++ flat_map list_spelling c.arrivals ++ accounts_spelling c.opening.faulty 0 c.accounts
