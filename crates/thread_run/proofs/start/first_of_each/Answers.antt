use Rattle.std.proofs.Common.{◌<◌, ◌∙◌, ap, length, arith, rules}
use Rattle.std.proofs.lemmas.List.{length-map, take_all}
use Rattle.std.specs.Prelude.{remove}
use Rattle.thread_run.specs.Finishing.{column}
use Rattle.thread_run.specs.Starting.{rows_in}
use Rattle.thread_run.proofs.ListUpdates.{changed_whole}
use Rattle.thread_run.proofs.InitialPasses.{firsts_more, rows_more, some_in_now}
use Rattle.thread_run.proofs.start.first_of_each.Goals as goal

pub remove-requires : goal.remove-requires
remove-requires c =
    let lt : c.loop-k.k < length c.args.passes.now.items = omega (arith, c.loop-k-test.true, c.loop-k.invariant.count) in
    let some = some_in_now c.loop-k.passes.items c.args.passes.now.items c.loop-k.k c.index_mut.result.now c.loop-k.invariant.rest
    c.index_mut.ensures.value lt c.requires in
    omega (arith, some, c.index_mut.result.now.ok.0)

pub loop-k-preserved : goal.loop-k-preserved
loop-k-preserved c =
    let lt : c.loop-k.k < length c.args.passes.now.items = omega (arith, c.loop-k-test.true, c.loop-k.invariant.count) in
    let some = some_in_now c.loop-k.passes.items c.args.passes.now.items c.loop-k.k c.index_mut.result.now c.loop-k.invariant.rest
    c.index_mut.ensures.value lt c.requires in record {
      first = c.in_ok-push.ensures.items
          ∙ firsts_more c.loop-k.passes.items c.args.passes.now.items c.loop-k.k c.index_mut.result.now c.loop-k.invariant.rest
          c.index_mut.ensures.value lt c.loop-k.first.items c.remove.result c.remove.ensures.value some c.loop-k.invariant.first;
      rest = rows_more c.loop-k.passes.items c.args.passes.now.items c.loop-k.k c.index_mut.result.now c.loop-k.invariant.rest
          c.index_mut.ensures.value lt c.remove.new.self c.remove.ensures.items;
      len = search rules;
      count = c.loop-k.invariant.count;
    }

pub returns-clause-first : goal.returns-clause-first
returns-clause-first c =
    let len = length-map c.args.passes.now.items (λ v. v.items) in
    c.loop-k.invariant.first
    ∙ ap (column 0) (take_all c.loop-k.k (rows_in c.args.passes.now.items) (omega (arith, len, c.loop-k-test.false, c.loop-k.invariant.count)))

pub returns-clause-rest : goal.returns-clause-rest
returns-clause-rest c =
    let len = length-map c.args.passes.now.items (λ v. v.items) in
    changed_whole (λ row. remove row 0) c.loop-k.k (rows_in c.loop-k.passes.items) (rows_in c.args.passes.now.items)
    (omega (arith, len, c.loop-k-test.false, c.loop-k.auto.k-end, c.loop-k.invariant.count)) c.loop-k.invariant.rest
