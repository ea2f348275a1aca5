use Rattle.std.proofs.Common.{◌≡◌, take}
use Rattle.std.specs.List.{fold}
use Rattle.replica_seat.specs.Acting.{sent, way}
use Rattle.replica_seat.proofs.seat.send_all.Given as goal

abbrev pub invariant-loop-send : goal.invariant-loop-send
invariant-loop-send l = fold (sent l.from) (way l.initial.links l.initial.queue.items) (take l.send-index l.sends) ≡ way l.links l.queue.items
