use Rattle.std.proofs.Common.{◌<◌, ◌≤◌, ◌*◌, length, arith}
use Rattle.fault_script.specs.Sealing.{signer}
use Rattle.replica_seat.specs.Seats.{meaning, replica_of}
use Rattle.replica_seat.specs.Opening.{fresh_replica}
use Rattle.replica_seat.proofs.Later.{all_left}
use Rattle.replica_seat.proofs.TakeLoops.{seated_more}
use Rattle.replica_seat.proofs.start.seats_of.Goals as goal

pub left-preserved : goal.left-preserved
left-preserved g c =
    let s = g.S.Sealer in
    let some : 0 < length c.left.sealers.items = omega (arith, c.remove-sealer.ensures.len, c.left.sealers.ok.0) in
    record {
      replicas = all_left (λ x. s.replica x < c.args.plan.now.setting.n) _ _ c.remove-sealer.ensures.items c.left.invariant.replicas;
      room = all_left (λ x. 5 * c.args.plan.now.views ≤ s.capacity x) _ _ c.remove-sealer.ensures.items c.left.invariant.room;
      made = rw c.in_ok-push.ensures.items (seated_more (replica_of (meaning s.replica s.gives))
          (λ x. fresh_replica c.args.plan.now (signer (s.replica x) (s.capacity x) (s.gives x) (s.made x)))
          c.left.seats.items c.in_ok-new_seat.field-0 c.left.sealers.items c.remove-sealer.new.self.items c.remove-sealer.result _
          some c.remove-sealer.ensures.value c.remove-sealer.ensures.items c.in_ok-new_seat.ensures c.left.invariant.made);
    }
