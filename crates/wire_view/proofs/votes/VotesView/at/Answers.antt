use Rattle.std.proofs.Common.{◌≡◌, ◌<◌, Err, length, sym, ◌∙◌, arith}
use Rattle.wire_view.specs.Reading.{vote_at}
use Rattle.wire_view.proofs.Steps.{opens, next_is, next_succeeds, not_both}
use Rattle.wire_view.proofs.votes.VotesView.at.Goals as goal

pub loop-init : goal.loop-init
loop-init c = opens vote_at (λ v. v.replica) c.self.inside.count c.self.inside.bytes.now c.args.self.now c.self.invariant.2 c.self.invariant.1 c.self.view_is

pub unreachable-requires : goal.unreachable-requires
unreachable-requires c =
    let within : c.loop.counter < length c.args.self.now = omega (arith, c.loop-test.true, c.requires) in
    let h = next_succeeds vote_at (λ v. v.replica) c.args.self.now c.loop.counter c.loop.least c.loop.rest.now within c.loop.invariant in
    let e : vote_at c.loop.least c.loop.rest.now ≡ Err c.in_default.field-0 = c.in_default.ensures.gives in
    absurd (not_both h.0 _ (sym h.1 ∙ e))

pub loop-preserved : goal.loop-preserved
loop-preserved c =
    let within : c.loop.counter < length c.args.self.now = omega (arith, c.loop-test.true, c.requires) in
    (next_is vote_at (λ v. v.replica) c.args.self.now c.loop.counter c.loop.least c.loop.rest.now
    (record { replica = c.in-Ok.replica; seal = c.in-Ok.field-0-0-1.now }) c.in-Ok.after.now within c.in-Ok.ensures.gives c.loop.invariant).1

pub unreachable-requires-in_default-read_vote : goal.unreachable-requires-in_default-read_vote
unreachable-requires-in_default-read_vote c =
    let within : c.loop.counter < length c.args.self.now = omega (arith, c.loop-test.false, c.loop.auto.counter-end, c.requires) in
    let h = next_succeeds vote_at (λ v. v.replica) c.args.self.now c.loop.counter c.loop.least c.loop.rest.now within c.loop.invariant in
    let e : vote_at c.loop.least c.loop.rest.now ≡ Err c.in_default-read_vote.field-0 = c.in_default-read_vote.ensures.gives in
    absurd (not_both h.0 _ (sym h.1 ∙ e))

pub returns : goal.returns
returns c =
    let at : c.loop.counter ≡ c.args.k = omega (arith, c.loop-test.false, c.loop.auto.counter-end) in
    let within : c.loop.counter < length c.args.self.now = omega (arith, at, c.requires) in
    rw (← at)
    ((next_is vote_at (λ v. v.replica) c.args.self.now c.loop.counter c.loop.least c.loop.rest.now
    (record { replica = c.in-Ok-read_vote.vote.0; seal = c.in-Ok-read_vote.vote.1.now }) c.in-Ok-read_vote.field-0-1.now within
    c.in-Ok-read_vote.ensures.gives c.loop.invariant).0)
