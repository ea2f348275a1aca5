use Rattle.std.proofs.Common.{rules, ◌≡◌, ◌<◌, length, get_or, refl, sym, subst, arith}
use Rattle.thread_run.specs.Exchange.{IsDriverOf}
use Rattle.thread_run.proofs.Submissions.{submits_all, submits_more, submits_none}
use Rattle.client_logs.proofs.Zips.{zip_at, zip_length}
use Rattle.thread_run.proofs.runs.Run.submit_arrivals.Goals as goal

pub loop-at-init : goal.loop-at-init
loop-at-init g c = submits_none c.args.plan.now c.args.turns c.args.self.now c.requires

pub index-requires : goal.index-requires
index-requires g c =
    let i = c.loop-at.invariant in
    let t = c.loop-at-test.true in
    let e = c.len-count.ensures in
    let first = c.args.self.now.drivers.ok.0 in
    let logs = c.loop-at.self.world.logs.ok.0 in
    let z = zip_length IsDriverOf _ _ i.manned.drivers in
    let n = i.count in
    omega (arith, t, e, first, logs, z, n)

pub submit_until-requires : goal.submit_until-requires
submit_until-requires g c =
    let i = c.loop-at.invariant in
    let t = c.loop-at-test.true in
    let e = c.len-count.ensures in
    let first = c.args.self.now.drivers.ok.0 in
    let n = i.count in
    let lt : c.loop-at.at < length c.loop-at.self.drivers.items = omega (arith, t, e, first, n) in
    let r = c.index_mut.result.now in
    let l = c.index.result.now in
    let log : l ≡ get_or c.loop-at.self.world.logs.items c.loop-at.at l = search rules in
    let there = zip_at IsDriverOf c.loop-at.self.world.logs.items c.loop-at.self.drivers.items c.loop-at.at l r i.manned.drivers lt in
    subst (λ o. IsDriverOf o r) (sym log) (subst (IsDriverOf (get_or c.loop-at.self.world.logs.items c.loop-at.at l)) (sym c.index_mut.ensures.value) there)

pub loop-at-preserved : goal.loop-at-preserved
loop-at-preserved g c =
    let i = c.loop-at.invariant in
    let t = c.loop-at-test.true in
    let e = c.len-count.ensures in
    let first = c.args.self.now.drivers.ok.0 in
    let n = i.count in
    let lt : c.loop-at.at < length c.loop-at.self.drivers.items = omega (arith, t, e, first, n) in
    let done = c.in_ok-submit_until.ensures in
    submits_more c.args.plan.now c.args.turns c.loop-at.at c.args.self.now c.loop-at.self c.index_mut.result.now c.submit_until.new.self
    c.index.result.now i lt c.index_mut.ensures.value done.goes done.feed done.given _ refl refl

pub returns : goal.returns
returns g c =
    let t = c.loop-at-test.false in
    let e = c.len-count.ensures in
    let first = c.args.self.now.drivers.ok.0 in
    let end = c.loop-at.auto.at-end in
    submits_all c.args.plan.now c.args.turns c.loop-at.at c.args.self.now c.loop-at.self (omega (arith, t, e, first, end)) c.loop-at.invariant
