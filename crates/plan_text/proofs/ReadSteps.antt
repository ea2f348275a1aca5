-- How reading continues, and where it stops.
use Rattle.std.proofs.Common.{◌≡◌, ℕ, ◌+◌, ◌<◌, List, [], ◌∷◌, ◌++◌, length, get_or, drop, map, Result, Ok, Err, IsErrAnd, refl}
use Rattle.std.proofs.lemmas.List.{drop_more}
use Rattle.toml.specs.Data.{Data}
use Rattle.plan_text.specs.declared.fault.FaultKind.{FaultKind}
use Rattle.plan_text.specs.declared.fault.PlanError.{PlanError}
use Rattle.plan_text.specs.declared.fault.PlanError.TheVariants.{Fault, NoMemory}
use Rattle.plan_text.specs.Reads.{Read, fault, then_read, IsFaultOf, Blames, ReadsAs, read_each}

-- an error that names a fault is that fault
pub names_blames : (X : Type 0) (e : PlanError) (kind : FaultKind) (key : List ℕ) → IsFaultOf e kind key → Blames {X = X} e (fault kind key)
names_blames X (Fault f) kind key is = rw is
names_blames X NoMemory kind key is = tt

-- a fault of the first step is the fault of the whole
pub blames_then : {X Y : Type 0} (e : PlanError) (r : Read X) (next : X → Read Y) → Blames e r → Blames e (then_read r next)
blames_then (Fault f) r next is = rw is
blames_then NoMemory r next is = tt

-- an error that is passed on is the same fault
pub handed_on : {X Y : Type 0} (shown : X → Y) (result : Result X PlanError) (e : PlanError) (r : Read Y)
    → IsErrAnd result (λ given. given ≡ e) → Blames e r → ReadsAs shown result r
handed_on shown (Ok x) e r is blames = absurd is
handed_on shown (Err given) e r is blames = rw is blames

-- where a list of values is read up to an index, the value there is read next
pub read_each-more : {X V : Type 0} (read : List X → Data → Read X) (shown : V → Data) (before : List X) (vs : List V) (i : ℕ) (d : V) (x : X) → i < length vs
    → read before (shown (get_or vs i d)) ≡ Ok x
    → read_each read before (map shown (drop i vs)) ≡ read_each read (before ++ x ∷ []) (map shown (drop (i + 1) vs))
read_each-more read shown before vs i d x within is = rw (drop_more vs i d within, is)

pub read_each-stops : {X V : Type 0} (read : List X → Data → Read X) (shown : V → Data) (before : List X) (vs : List V) (i : ℕ) (d : V)
    (e : PlanError) → i < length vs
    → Blames e (read before (shown (get_or vs i d)))
    → Blames e (read_each read before (map shown (drop i vs)))
read_each-stops read shown before vs i d e within is = rw (drop_more vs i d within) (blames_then e (read before (shown (get_or vs i d))) _ is)

-- what was read before the rest could be
pub read_first : {X Y : Type 0} (r : Read X) (next : X → Read Y) (y : Y) → then_read r next ≡ Ok y → (x : X) × (r ≡ Ok x) × (next x ≡ Ok y)
read_first (Ok x) next y is = (x, refl, is)
read_first (Err e) next y is = absurd (cc)

-- the same, for what follows from it
pub on_read : {X Y : Type 0} {Q : Type 0} (r : Read X) (next : X → Read Y) (y : Y) → then_read r next ≡ Ok y → ((x : X) → r ≡ Ok x → next x ≡ Ok y → Q) → Q
on_read (Ok x) next y is go = go x refl is
on_read (Err e) next y is go = absurd (cc)
