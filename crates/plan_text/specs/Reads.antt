-- The result of reading: a value, or the first fault.
use Rattle.std.specs.Prelude.{◌≡◌, ℕ, List, [], ◌∷◌, ◌++◌, Result, Ok, Err}
use Rattle.plan_text.specs.declared.fault.FaultKind.{FaultKind}
use Rattle.plan_text.specs.declared.fault.PlanFault.{PlanFault}
use Rattle.plan_text.specs.declared.fault.PlanError.{PlanError}
use Rattle.plan_text.specs.declared.fault.PlanError.TheVariants.{Fault, NoMemory}
use Rattle.toml.specs.Data.{Data}

abbrev pub Read : Type 0 → Type 0
Read X = Result X PlanFault

abbrev pub fault : {X : Type 0} → FaultKind → List ℕ → Read X
fault kind key = Err (record { kind = kind; key = key })

-- continue with the value that was read
abbrev pub then_read : {X Y : Type 0} → Read X → (X → Read Y) → Read Y
then_read (Ok x) next = next x
then_read (Err f) next = Err f

-- an error is the fault that was read; no condition is attached to NoMemory
abbrev pub Blames : {X : Type 0} → PlanError → Read X → Type 0
Blames (Fault f) r = r ≡ Err f
Blames NoMemory r = Unit {0}

-- an error is this fault
abbrev pub IsFaultOf : PlanError → FaultKind → List ℕ → Type 0
IsFaultOf (Fault f) kind key = f ≡ record { kind = kind; key = key }
IsFaultOf NoMemory kind key = Unit {0}

-- the result of a call is what is read: a value, as it is shown, or the fault
abbrev pub ReadsAs : {X Y : Type 0} → (X → Y) → Result X PlanError → Read Y → Type 0
ReadsAs shown (Ok x) r = r ≡ Ok (shown x)
ReadsAs shown (Err e) r = Blames e r

abbrev pub ReadsTo : {X : Type 0} → Result X PlanError → Read X → Type 0
ReadsTo result r = ReadsAs (λ x. x) result r

-- each value of a list in order, where each is read with access to those before it
abbrev pub read_each : {X : Type 0} → (List X → Data → Read X) → List X → List Data → Read (List X)
read_each read before [] = Ok before
read_each read before (d ∷ ds) = then_read (read before d) (λ x. read_each read (before ++ x ∷ []) ds)
