use Rattle.std.proofs.Common.{◌≡◌, ℕ, Some, List, arith}
use Rattle.durable_node.specs.Check.{next_digest}
use Rattle.durable_node.specs.Log.{IsNext, body_of}
use Rattle.durable_node.proofs.Logs.{one_read}
use Rattle.durable_node.proofs.Records.{next_fits}
use Rattle.durable_node.proofs.reading.read_records.Goals as goal

pub split_at-requires : goal.split_at-requires
split_at-requires c =
    let rest : List ℕ = c.loop-alloc.rest.now in
    let next : IsNext c.loop-alloc.digest rest (Some c.in-Some.event) = rw c.in-Some.is at c.in_ok-event.ensures.next in
    omega (arith, c.record_size.ensures, next_fits _ rest c.in-Some.event next)

pub loop-alloc-preserved : goal.loop-alloc-preserved
loop-alloc-preserved c =
    let rest : List ℕ = c.loop-alloc.rest.now in
    let next : IsNext c.loop-alloc.digest rest (Some c.in-Some.event) = rw c.in-Some.is at c.in_ok-event.ensures.next in
    let moved : c.next_event.new.digest ≡ next_digest c.loop-alloc.digest (body_of c.in-Some.event) = rw c.in-Some.is at c.in_ok-event.ensures.moved in
    let read = one_read c.args.start.now c.args.log.now c.loop-alloc.events.items rest c.loop-alloc.digest c.in-Some.event c.loop-alloc.invariant next in
    rw (c.in_ok-push_event.ensures, c.split_at.ensures.back, c.record_size.ensures, moved) read
