-- Sources and sinks in memory, which fail at the calls that a script names.
use Rattle.std.specs.Prelude.{◌≡◌, ℕ, ◌-◌, ◌<◌, min, List, length, Contains}
use Rattle.seq_io.specs.Device.{counted}

-- the numbers of the calls that fail, counted from 1; the number of calls; the number of failed calls
pub record Script : Type 0 where
  pub failing : List ℕ
  pub calls : ℕ
  pub faults : ℕ

-- the next call is one of those that fail
abbrev pub FailsNext : Script → Type 0
FailsNext s = Contains s.failing (counted s.calls)

-- after a call
abbrev pub after_call : Script → Script
after_call s = record s { calls = counted s.calls }

-- after a call that failed
abbrev pub after_fault : Script → Script
after_fault s = record s { calls = counted s.calls; faults = counted s.faults }

pub record Input : Type 0 where
  pub left : List ℕ
  pub script : Script

-- what was written, the maximum that one write takes, and the total capacity in bytes
pub record Output : Type 0 where
  pub written : List ℕ
  pub most : ℕ
  pub room : ℕ
  pub script : Script

-- the piece is not empty, and no room is left
abbrev pub IsFullFor : Output → List ℕ → Type 0
IsFullFor sink piece = (0 < length piece) × (sink.room ≡ length sink.written)

-- the number of bytes that a successful write takes
abbrev pub taken_of : Output → List ℕ → ℕ
taken_of sink piece = min sink.most (min (length piece) (sink.room - length sink.written))
