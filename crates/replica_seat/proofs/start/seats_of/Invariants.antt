use Rattle.std.proofs.Common.{◌≡◌, ◌<◌, ◌≤◌, ◌*◌, ◌++◌, All, length, map}
use Rattle.fault_script.specs.Sealing.{signer}
use Rattle.replica_seat.specs.Seats.{meaning, replica_of}
use Rattle.replica_seat.specs.Opening.{fresh_replica}
use Rattle.replica_seat.proofs.start.seats_of.Given as goal

abbrev pub invariant-left : goal.invariant-left
invariant-left g l =
    let made = λ (s : g.row.S.Denot). fresh_replica l.plan (signer (g.S.Sealer.replica s) (g.S.Sealer.capacity s) (g.S.Sealer.gives s) (g.S.Sealer.made s)) in
    record {
      replicas : All (λ s. g.S.Sealer.replica s < l.plan.setting.n) l.sealers.items;
      room : All (λ s. 5 * l.plan.views ≤ g.S.Sealer.capacity s) l.sealers.items;
      made : map (replica_of (meaning g.S.Sealer.replica g.S.Sealer.gives)) l.seats.items ++ map made l.sealers.items ≡ map made l.fn.sealers.items;
    }

abbrev pub decreases-left : goal.decreases-left
decreases-left g l = length l.sealers.items
