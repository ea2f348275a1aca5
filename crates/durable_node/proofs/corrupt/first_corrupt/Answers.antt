use Rattle.std.proofs.Common.{ℕ, List, refl, arith}
use Rattle.durable_node.specs.Log.{Skips}
use Rattle.durable_node.proofs.Records.{next_fits}
use Rattle.durable_node.proofs.Scans.{good_scanned, one_scanned}
use Rattle.durable_node.proofs.corrupt.first_corrupt.Goals as goal

pub split_at-requires : goal.split_at-requires
split_at-requires c =
    let rest : List ℕ = c.loop-rest.rest.now in
    let skipped : Skips c.loop-rest.digest rest c.skip_event.new.digest = c.skip_event.ensures.event c.if-not-skip_event.false in
    omega (arith, c.record_size.ensures, next_fits _ rest skipped.event skipped.next)

pub loop-rest-preserved : goal.loop-rest-preserved
loop-rest-preserved c =
    let rest : List ℕ = c.loop-rest.rest.now in
    let skipped : Skips c.loop-rest.digest rest c.skip_event.new.digest = c.skip_event.ensures.event c.if-not-skip_event.false in
    let read = one_scanned c.args.start.now c.args.log.now rest c.loop-rest.digest c.skip_event.new.digest c.loop-rest.invariant skipped in
    rw (c.split_at.ensures.back, c.record_size.ensures) read

pub returns-clause-good : goal.returns-clause-good
returns-clause-good c = good_scanned c.args.start.now c.args.log.now c.loop-rest.rest.now c.loop-rest.digest c.loop-rest.invariant
    (c.loop-rest-test.ensures.0 refl)
