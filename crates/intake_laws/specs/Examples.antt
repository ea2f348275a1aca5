-- Small logs that can be checked by hand. Of five replicas the last is faulty.
use Rattle.std.specs.Prelude.{ℕ, List, [], ◌∷◌, Bool, false, ◌==◌, if◌then◌else◌}
use Rattle.seq_base.specs.declared.tx.Tx.{Tx}
use Rattle.intake.specs.declared.slot.Receipt.{Receipt}
use Rattle.intake.specs.declared.slot.Bound.TheVariants.{All, To}
use Rattle.majority_graph.specs.Examples.{first, second, third}
use Rattle.intake_laws.specs.Past.{Call}
use Rattle.intake_laws.specs.Premises.{History}

abbrev pub is_faulty : ℕ → Bool
is_faulty r = r == 4

abbrev pub is_late : ℕ → Bool
is_late r = false

abbrev pub report : Tx → ℕ → Receipt
report tx stamp = record { tx = tx; stamp = stamp }

-- a replica receives a transaction, and hears the stamps of three others for it and that of the faulty replica
abbrev pub gathers : Tx → ℕ → ℕ → ℕ → ℕ → ℕ → ℕ → List Call → List Call
gathers tx stamp false_stamp me x y z later =
    Call.Receive tx me ∷ Call.Hear x (report tx stamp) ∷ Call.Hear y (report tx stamp) ∷ Call.Hear z (report tx stamp)
    ∷ Call.Hear 4 (report tx false_stamp) ∷ later

-- It receives the first and then the second. The faulty replica stamps the first late and the second early, and asks for
-- the second to be let in first. Then the first arrives, and then the second.
abbrev pub calls_of : ℕ → ℕ → ℕ → ℕ → List Call
calls_of me x y z =
    gathers first 1 9 me x y z (gathers second 2 0 me x y z (Call.Arrive (To 1 first) (second ∷ []) ∷ Call.Arrive (To 2 second) [] ∷ []))

-- the log of each honest replica
abbrev pub log_of : ℕ → List Call
log_of r = if r == 0 then calls_of 0 1 2 3 else if r == 1 then calls_of 1 0 2 3 else if r == 2 then calls_of 2 0 1 3 else calls_of 3 0 1 2

-- each has one lifetime
abbrev pub history : History
history r = log_of r ∷ []

-- the stamp of each for the first
abbrev pub first_stamp : ℕ → ℕ
first_stamp r = 1

-- One honest replica stamped the second before it had heard of the first, and the faulty one stamps it with 0. The first
-- waits, with key 2.
abbrev pub reversed : List Call
reversed =
    Call.Receive third 0 ∷ Call.Receive first 0 ∷ Call.Hear 1 (report first 2) ∷ Call.Hear 2 (report first 2) ∷ Call.Receive second 0
    ∷ Call.Hear 3 (report second 1)
    ∷ Call.Hear 4 (report second 0) ∷ Call.Arrive (To 1 third) (second ∷ []) ∷ Call.Arrive All [] ∷ []

-- the second is given, whatever its key
abbrev pub excepted : List Call
excepted = Call.Receive first 0 ∷ Call.Receive second 0 ∷ Call.Give second ∷ Call.Arrive All [] ∷ []
