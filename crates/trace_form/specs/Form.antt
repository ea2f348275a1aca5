-- Reading a whole trace.
use Rattle.std.specs.Prelude.{◌≡◌, ℕ, ◌-◌, List, [], true, length, Result, Ok, Err}
use Rattle.wire_view.specs.Reading.{◌>>=◌, give}
use Rattle.trace_form.specs.declared.contents.Contents.{Contents}
use Rattle.trace_form.specs.declared.fault.TraceFault.{TraceFault}
use Rattle.trace_form.specs.declared.fault.TraceFault.TheVariants.{BadTrace, NoMemory}
use Rattle.trace_form.specs.declared.trace.Trace.{Trace}
use Rattle.trace_form.specs.Accounts.{next_account_at}
use Rattle.trace_form.specs.Contents.{trace_of}
use Rattle.trace_form.specs.Lists.{list_at}
use Rattle.trace_form.specs.Opening.{opening_at}
use Rattle.trace_form.specs.Reading.{TraceReader, each_at, whole}

unfoldable pub contents_at : TraceReader Contents
contents_at = do
  opening ← opening_at
  arrivals ← each_at (λ before. list_at true) opening.setting.n []
  accounts ← each_at (next_account_at opening.setting.n opening.faulty) opening.setting.n []
  give (record { opening = opening; arrivals = arrivals; accounts = accounts })

-- The bytes that are left from the first faulty field on give its place.
abbrev pub placed : ℕ → Result Contents ℕ → Result Trace ℕ
placed size (Ok contents) = Ok (trace_of contents)
placed size (Err left) = Err (size - left)

-- what bytes read as: a trace, or the place of the first faulty field
unfoldable pub read_of : List ℕ → Result Trace ℕ
read_of bytes = placed (length bytes) (whole (contents_at bytes))

-- A call returns what is read. Out of memory is tied to nothing.
abbrev pub BlamesPlace : TraceFault → Result Trace ℕ → Type 0
BlamesPlace (BadTrace at) read = read ≡ Err at
BlamesPlace NoMemory read = Unit {0}

abbrev pub ReadsAs : Result Trace TraceFault → Result Trace ℕ → Type 0
ReadsAs (Ok trace) read = read ≡ Ok trace
ReadsAs (Err fault) read = BlamesPlace fault read
