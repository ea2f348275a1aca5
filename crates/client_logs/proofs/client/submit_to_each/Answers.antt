use Rattle.std.proofs.Common.{rules, ◌≡◌, ◌<◌, ◌+◌, length, sym, subst, arith}
use Rattle.std.specs.List.{AllZip}
use Rattle.locked_log.specs.History.{IsPassOf}
use Rattle.arrival_log.specs.declared.log.SubmitFault.TheVariants.{Full}
use Rattle.client_logs.specs.Clients.{ByFirst, MaySubmit, SomeFull}
use Rattle.client_logs.proofs.Zips.{zip_length}
use Rattle.client_logs.proofs.OneTransaction.{none_yet, one_more, each_may, or_one, full_at, full_for, first_length, the_one}
use Rattle.client_logs.proofs.client.submit_to_each.Goals as goal

pub loop-k-init : goal.loop-k-init
loop-k-init g c = (c.requires, none_yet c.args.tx c.args.passes.now.items, search rules)

pub submit_at-requires-clause-place : goal.submit_at-requires-clause-place
submit_at-requires-clause-place g c =
    let z = zip_length IsPassOf _ _ c.loop-k.invariant.0 in
    let f = first_length c.args.tx _ _ _ c.loop-k.invariant.1 in
    let n = c.loop-k.invariant.2 in
    let t = c.loop-k-test.true in
    (omega (arith, z, f, n, t), omega (arith, f, n, t))

pub returns-in_err-submit_at-clause-some : goal.returns-in_err-submit_at-clause-some
returns-in_err-submit_at-clause-some g c =
    let f = first_length c.args.tx _ _ _ c.loop-k.invariant.1 in
    let n = c.loop-k.invariant.2 in
    let t = c.loop-k-test.true in
    let lt : c.loop-k.k < length c.loop-k.passes.items = omega (arith, f, n, t) in
    let d = the_one c.loop-k.passes.items c.loop-k.k lt in
    subst (AllZip (MaySubmit c.args.tx) c.args.passes.now.items) (sym (c.in_err-submit_at.ensures.set d))
    (or_one c.args.tx c.loop-k.k c.args.passes.now.items c.loop-k.passes.items d _ _ c.loop-k.invariant.1 (c.in_err-submit_at.ensures.submitted d))

pub returns-in_err-submit_at-clause-full : goal.returns-in_err-submit_at-clause-full
returns-in_err-submit_at-clause-full g c is =
    let f = first_length c.args.tx _ _ _ c.loop-k.invariant.1 in
    let n = c.loop-k.invariant.2 in
    let t = c.loop-k-test.true in
    let lt : c.loop-k.k < length c.loop-k.passes.items = omega (arith, f, n, t) in
    let d = the_one c.loop-k.passes.items c.loop-k.k lt in
    let full : c.in_err-submit_at.field-0.0 ≡ Full = search rules in
    subst (SomeFull c.args.tx) (sym (c.in_err-submit_at.ensures.set d))
    (full_at c.args.tx c.loop-k.k c.loop-k.passes.items _ lt (full_for c.args.tx _ _ _ (c.in_err-submit_at.ensures.submitted d) full))

pub loop-k-preserved : goal.loop-k-preserved
loop-k-preserved g c =
    let f = first_length c.args.tx _ _ _ c.loop-k.invariant.1 in
    let n = c.loop-k.invariant.2 in
    let t = c.loop-k-test.true in
    let lt : c.loop-k.k < length c.loop-k.passes.items = omega (arith, f, n, t) in
    let d = the_one c.loop-k.passes.items c.loop-k.k lt in (
      c.in_ok-submit_at.ensures.own,
      subst (ByFirst c.args.tx (c.loop-k.k + 1) c.args.passes.now.items) (sym (c.in_ok-submit_at.ensures.set d))
          (one_more c.args.tx c.loop-k.k c.args.passes.now.items c.loop-k.passes.items d _ lt c.loop-k.invariant.1 (_, c.in_ok-submit_at.ensures.submitted d)),
      c.loop-k.invariant.2,
    )

pub returns-clause-some : goal.returns-clause-some
returns-clause-some g c = each_may c.args.tx _ _ _ c.loop-k.invariant.1
