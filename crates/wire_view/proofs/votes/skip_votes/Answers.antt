use Rattle.std.proofs.lemmas.Result.{err_from_is_err_and}
use Rattle.wire_view.specs.Reading.{rest_of, vote_at, votes_at}
use Rattle.wire_view.proofs.Steps.{rest_goes_on, rest_fails, rest_ends}
use Rattle.wire_view.proofs.votes.skip_votes.Goals as goal

pub returns-in_err-replica : goal.returns-in_err-replica
returns-in_err-replica c =
    let p = err_from_is_err_and c.from_residual.result c.from_residual.ensures.1 in
    let h = c.in_err-replica.ensures.gives in
    rw (p.1, p.2) (rest_fails vote_at (λ v. v.replica) c.args.count c.loop.counter c.loop.least c.loop.rest.now c.in_err-replica.field-0.0
    (rest_of (votes_at c.args.count 0 c.args.bytes.now)) c.loop-test.true h c.loop.invariant)

pub loop-preserved : goal.loop-preserved
loop-preserved c =
    rest_goes_on vote_at (λ v. v.replica) c.args.count c.loop.counter c.loop.least c.loop.rest.now
    (record { replica = c.in_ok-replica.replica; seal = c.in_ok-replica.field-0-0-1.now }) c.in_ok-replica.after.now
    (rest_of (votes_at c.args.count 0 c.args.bytes.now)) c.loop-test.true c.in_ok-replica.ensures.gives c.loop.invariant

pub returns : goal.returns
returns c = rest_ends vote_at (λ v. v.replica) c.args.count c.loop.counter c.loop.least c.loop.rest.now
    (rest_of (votes_at c.args.count 0 c.args.bytes.now)) c.loop-test.false c.loop.invariant
