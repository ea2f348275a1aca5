-- The commands of the program: the arguments of each, what it does with the input, and how it may end.
use Rattle.std.specs.Prelude.{◌≡◌, ℕ, Bool, true, false, ◌<◌, ◌≤◌, ◌^◌, List, [], ◌∷◌, map, codes, string_bytes, String, Option, Some, None}
use Rattle.std.specs.Borrow.{Bor}
use Rattle.std.specs.Fmt.{decimal}
use Rattle.std.specs.declared.alloc.Global.{Global}
use Rattle.themis_calls.specs.Limits.{most_input, most_trace}
use Rattle.themis_calls.specs.declared.command.Command.{Command}
use Rattle.themis_calls.specs.declared.command.Command.TheVariants.{Order, Line, Replay, Run, Trace, Audit, Make}
use Rattle.themis_calls.specs.declared.outcome.Status.{Status}
use Rattle.themis_calls.specs.Statuses.{ends_audit, ends_make, ends_order, ends_replay}

-- the arguments of a command
abbrev pub words_of : Command → List (List ℕ)
words_of Order = codes "order" ∷ []
words_of Line = codes "line" ∷ []
words_of Replay = codes "replay" ∷ []
words_of Run = codes "run" ∷ []
words_of Trace = codes "trace" ∷ []
words_of Audit = codes "audit" ∷ []
words_of (Make seed count) = codes "make" ∷ decimal seed ∷ decimal count ∷ []

-- the seed of a made plan is a number of TOML, and it has 1 to 8,000 transactions
abbrev pub AreInRange : ℕ → ℕ → Type 0
AreInRange seed count = (seed < 2 ^ 63) × (1 ≤ count) × (count ≤ 8000)

-- its numbers are in their ranges
abbrev pub IsCommand : Command → Type 0
IsCommand Order = Unit {0}
IsCommand Line = Unit {0}
IsCommand Replay = Unit {0}
IsCommand Run = Unit {0}
IsCommand Trace = Unit {0}
IsCommand Audit = Unit {0}
IsCommand (Make seed count) = AreInRange seed count

abbrev pub Names : List (String Global) → Command → Type 0
Names words command = IsCommand command × (map string_bytes words ≡ words_of command)

-- the arguments name a command
abbrev pub AreWords : List (String Global) → Type 0
AreWords words = (command : Command) × Names words command

-- a word, followed by two numbers if they are there
abbrev pub words_from : List ℕ → Option (Bor (List ℕ) × Bor (List ℕ)) → List (List ℕ)
words_from word None = word ∷ []
words_from word (Some numbers) = word ∷ numbers.0.now ∷ numbers.1.now ∷ []

-- whether a command reads the source, its limit in bytes, whether it gives a run, and how it may end
pub record Rules : Type 0 where
  pub reads : Bool
  pub most : ℕ
  pub gives : Bool
  pub ends : Status → Bool

-- an order text, a plan or a trace is read
abbrev pub order_rules : Rules
order_rules = record { reads = true; most = most_input; gives = false; ends = ends_order }

abbrev pub plan_rules : Rules
plan_rules = record { reads = true; most = most_input; gives = true; ends = ends_replay }

abbrev pub trace_rules : Rules
trace_rules = record { reads = true; most = most_trace; gives = true; ends = ends_audit }

-- nothing is read
abbrev pub make_rules : Rules
make_rules = record { reads = false; most = 0; gives = false; ends = ends_make }

abbrev pub rules_of : Command → Rules
rules_of Order = order_rules
rules_of Line = order_rules
rules_of Replay = plan_rules
rules_of Run = plan_rules
rules_of Trace = plan_rules
rules_of Audit = trace_rules
rules_of (Make seed count) = make_rules
