use Rattle.std.proofs.Common.{◌≡◌, ◌<◌, ◌∙◌, length, arith, refl, rules, sym}
use Rattle.locked_log.specs.History.{given, giving}
use Rattle.thread_run.proofs.ListUpdates.{changed_whole, taken_whole}
use Rattle.thread_run.proofs.InitialPasses.{mains_more, passes_more, two_now}
use Rattle.thread_run.specs.Starting.{HasTwo}
use Rattle.client_logs.proofs.Zips.{zip_length}
use Rattle.thread_run.proofs.start.passes_for.Goals as goal

pub loop-k-init : goal.loop-k-init
loop-k-init c = record {
  mains = refl;
  passes = search rules;
  count = search rules;
  len = sym (zip_length HasTwo c.args.logs.now c.args.mains.now.items c.requires);
}

pub split-one-requires-clause-own : goal.split-one-requires-clause-own
split-one-requires-clause-own c =
    let lt : c.loop-k.k < length c.args.mains.now.items = omega (arith, c.loop-k-test.true, c.loop-k.invariant.count, c.loop-k.invariant.len) in
    let two = two_now c.args.logs.now c.loop-k.mains.items c.args.mains.now.items c.loop-k.k c.index-logs-k.result c.index_mut.result.now
    c.loop-k.invariant.mains c.index_mut.ensures.value c.requires lt in
    let own = two.0 in
    search rules

pub split-one-requires-clause-parts : goal.split-one-requires-clause-parts
split-one-requires-clause-parts c =
    let lt : c.loop-k.k < length c.args.mains.now.items = omega (arith, c.loop-k-test.true, c.loop-k.invariant.count, c.loop-k.invariant.len) in
    (two_now c.args.logs.now c.loop-k.mains.items c.args.mains.now.items c.loop-k.k c.index-logs-k.result c.index_mut.result.now
    c.loop-k.invariant.mains c.index_mut.ensures.value c.requires lt).1

pub loop-k-preserved : goal.loop-k-preserved
loop-k-preserved c =
    let lt : c.loop-k.k < length c.args.mains.now.items = omega (arith, c.loop-k-test.true, c.loop-k.invariant.count, c.loop-k.invariant.len) in record {
      mains = mains_more c.args.logs.now c.loop-k.mains.items c.args.mains.now.items c.loop-k.k c.index-logs-k.result c.index_mut.result.now
          c.loop-k.invariant.mains c.index_mut.ensures.value c.split-one.new.pass c.split-one.ensures.kept lt;
      passes = c.in_ok-push.ensures.items
          ∙ passes_more c.args.logs.now c.loop-k.mains.items c.args.mains.now.items c.loop-k.k c.index-logs-k.result c.index_mut.result.now
          c.loop-k.invariant.mains c.index_mut.ensures.value c.loop-k.passes.items c.split-one.result c.split-one.ensures.given lt
          c.loop-k.invariant.passes;
      count = c.loop-k.invariant.count;
      len = c.loop-k.invariant.len;
    }

pub returns-clause-gave : goal.returns-clause-gave
returns-clause-gave c =
    let all : c.loop-k.k ≡ length c.args.mains.now.items =
    omega (arith, c.loop-k-test.false, c.loop-k.auto.k-end, c.loop-k.invariant.count, c.loop-k.invariant.len) in
    changed_whole giving c.loop-k.k c.loop-k.mains.items c.args.mains.now.items all c.loop-k.invariant.mains

pub returns-clause-given : goal.returns-clause-given
returns-clause-given c =
    let all : c.loop-k.k ≡ length c.args.mains.now.items =
    omega (arith, c.loop-k-test.false, c.loop-k.auto.k-end, c.loop-k.invariant.count, c.loop-k.invariant.len) in
    c.loop-k.invariant.passes ∙ taken_whole given c.loop-k.k c.args.mains.now.items all
