-- Why a log is refused.
use Rattle.std.proofs.Common.{◌≡◌, ◌<◌, ◌-◌, ℕ, List, [], length, subst, arith, inl, inr}
use Rattle.std.proofs.lemmas.List.{drop_all}
use Rattle.std.proofs.lemmas.List.Elements.{All-nil}
use Rattle.durable_node.specs.Header.{IsOwn, records_in}
use Rattle.durable_node.specs.Check.{header_digest}
use Rattle.durable_node.specs.Log.{CanBeKept, IsBadAt}
use Rattle.durable_node.proofs.Ends.{never_both, read_whole_log}
use Rattle.replica_box.specs.Opening.{IsLogCause, IsRecordsCause}
use Rattle.replica_box.specs.declared.fault.OpenFault.{OpenFault}
use Rattle.replica_box.specs.declared.fault.OpenFault.TheVariants.{Number, Views, Count, Secret, NoHeader, OtherLog, Corrupt, NoMemory}

-- a log that ends within its header has no corrupt record
short_good : (digest log : List ℕ) (at : ℕ) → length log < 76 → IsBadAt digest (records_in log) at → ⊥
short_good digest log at short bad =
    let none : records_in log ≡ [] = drop_all 76 log (omega (arith, short)) in
    never_both digest [] [] 0 at (read_whole_log digest [] (All-nil CanBeKept)) (subst (λ (r : List ℕ). IsBadAt digest r at) none bad)

pub records_cause : (fault : OpenFault) (header log : List ℕ) → IsOwn header log
    → IsRecordsCause fault (header_digest header) (records_in log) → IsLogCause fault header log
records_cause Number header log own is = absurd is
records_cause Views header log own is = absurd is
records_cause Count header log own is = absurd is
records_cause Secret header log own is = absurd is
records_cause NoHeader header log own is = absurd is
records_cause OtherLog header log own is = absurd is
records_cause (Corrupt at) header log (inl has) is = record { own = has; following = is.0; bad = is.1 }
records_cause (Corrupt at) header log (inr torn) is = absurd (short_good (header_digest header) log _ torn.0 is.1)
records_cause NoMemory header log own is = record { own = own; none_bad = λ at bad. is (at - 76) bad.bad }
