-- A log of one's own is whole or torn, by its length.
use Rattle.std.proofs.Common.{◌≡◌, ℕ, ◌+◌, ◌-◌, ◌<◌, ◌≤◌, List, [], ◌++◌, Ok, Err, length, take, ap, sym, subst, ◌∙◌, arith, inl, inr}
use Rattle.std.specs.Prelude.{IfErr, Result}
use Rattle.std.proofs.lemmas.List.{append-nil, drop_all, length-drop, length-take}
use Rattle.durable_node.specs.declared.kept.KeptFault.{KeptFault}
use Rattle.durable_node.specs.declared.kept.KeptFault.TheVariants as kepts
use Rattle.durable_node.specs.Header.{HasHeader, IsIntact, IsOwn, IsTorn, records_in}
use Rattle.durable_node.specs.Check.{header_digest}
use Rattle.durable_node.specs.Log.{IsBadAt, records_of}
use Rattle.durable_node.specs.Node.{IsDeviceFault, IsRecordsFault, IsRefusal, IsUnopened}
use Rattle.durable_node.proofs.Ends.{never_both, read_whole_log}
use Rattle.durable_node.proofs.Headers.{long_log}

pub own_long : (header log : List ℕ) → IsOwn header log → 76 ≤ length log → HasHeader header log
own_long header log (inl has) long = has
own_long header log (inr torn) long = absurd (omega (arith, torn.0, long))

pub own_short : (header log : List ℕ) → length header ≡ 76 → IsOwn header log → length log < 76 → IsTorn header log
own_short header log sized (inl has) short = absurd (omega (arith, short, long_log header log sized has))
own_short header log sized (inr torn) short = torn

-- a torn log has no records
pub none_taken : (header log : List ℕ) (whole : ℕ) → length log < 76 → whole ≤ length (records_in log) → header ≡ header ++ take whole (records_in log)
none_taken header log whole short within =
    let none : whole ≡ 0 = omega (arith, short, within, length-drop 76 log) in
    sym (ap (λ (n : ℕ). header ++ take n (records_in log)) none ∙ append-nil header)

-- ---- faults

pub device_refuses : (header log : List ℕ) (f : KeptFault) → IsDeviceFault f → IsRefusal header log f
device_refuses header log kepts.NoHeader d = absurd d
device_refuses header log kepts.OtherLog d = absurd d
device_refuses header log (kepts.BadLog at) d = absurd d
device_refuses header log kepts.Closed d = absurd d
device_refuses header log kepts.Keep d = tt
device_refuses header log kepts.NoMemory d = tt

-- a torn log has no record, and no corrupt one
bad_long : (digest log : List ℕ) (at : ℕ) → length log < 76 → IsBadAt digest (records_in log) at → ⊥
bad_long digest log at short bad =
    let none : records_in log ≡ [] = drop_all 76 log (omega (arith, short)) in
    never_both digest [] [] 0 at (read_whole_log digest [] (λ i d less. absurd (omega (arith, less)))) (subst (λ (r : List ℕ). IsBadAt digest r at) none bad)

pub bad_refuses : (header log : List ℕ) (f : KeptFault) → IsOwn header log → IsRecordsFault (header_digest header) (records_in log) f → IsRefusal header log f
bad_refuses header log kepts.NoHeader own d = absurd d
bad_refuses header log kepts.OtherLog own d = absurd d
bad_refuses header log (kepts.BadLog at) (inl has) d = record { own = has; following = d.0; bad = d.1 }
bad_refuses header log (kepts.BadLog at) (inr torn) d = absurd (bad_long (header_digest header) log (at - 76) torn.0 d.1)
bad_refuses header log kepts.Closed own d = absurd d
bad_refuses header log kepts.Keep own d = tt
bad_refuses header log kepts.NoMemory own d = tt

-- where memory ran out
pub good_own : {X : Type 0} (header log : List ℕ) (r : Result X KeptFault) → IsOwn header log
    → IfErr r (IsRecordsFault (header_digest header) (records_in log)) → r ≡ Err kepts.NoMemory → IsIntact header log
good_own header log (Ok x) own d is = absurd cc
good_own header log (Err kepts.NoHeader) own d is = absurd d
good_own header log (Err kepts.OtherLog) own d is = absurd d
good_own header log (Err (kepts.BadLog at)) own d is = absurd cc
good_own header log (Err kepts.Closed) own d is = absurd d
good_own header log (Err kepts.Keep) own d is = absurd d
good_own header log (Err kepts.NoMemory) own d is = record { own = own; none_bad = λ at bad. d (at - 76) bad.bad }

pub bad_within : (digest log : List ℕ) (at : ℕ) → IsBadAt digest log at → at ≤ length log
bad_within digest log at bad =
    (let len : length (take at log) ≡ length (records_of digest bad.events) = ap (λ (t : List ℕ). length t) bad.prefix in
    omega (arith, len, bad.size, length-take at log))

-- ---- openings

pub unopened_same : (header log : List ℕ) (old new : ℕ) → new ≡ old → IsUnopened header log old new
unopened_same header log old new same = record { same = λ other. same; once = (omega (arith, same), omega (arith, same)) }

pub opened_once : (header log : List ℕ) (old new : ℕ) → IsTorn header log → (old ≤ new) × (new ≤ old + 1) → IsUnopened header log old new
opened_once header log old new torn once = record { same = λ other. absurd (other torn); once = once }
