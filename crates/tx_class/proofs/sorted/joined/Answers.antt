use Rattle.std.proofs.Common.{ap, ◌∙◌, arith}
use Rattle.seq_base.specs.Lists.{holds, listed}
use Rattle.std.proofs.lemmas.List.{take_all}
use Rattle.tx_class.proofs.Occurrences.{joined_more, longer}
use Rattle.tx_class.proofs.sorted.joined.Goals as goal

pub loop-list-preserved : goal.loop-list-preserved
loop-list-preserved c =
    let held = c.in_ok-held.held.items in
    let at = c.loop-list.list-index in
    let list = c.list-item.result in
    rw (c.in_ok-extend_from_slice.ensures.items, c.deref.ensures.value) (
      (λ t. joined_more c.args.lists.now at c.loop-list.all.items held list t (omega arith) c.list-item.is
          (c.loop-list.invariant.0 t) c.in_ok-held.ensures.ascending
          (c.in_ok-held.ensures.same t ∙ ap (holds t) c.as_slice.ensures)),
      longer c.args.lists.now at c.loop-list.all.items held list (omega arith) c.list-item.is c.loop-list.invariant.1
          (rw (← c.as_slice.ensures) c.in_ok-held.ensures.few),
    )

pub returns-clause-counts : goal.returns-clause-counts
returns-clause-counts c = λ t. c.loop-list.invariant.0 t ∙ ap (λ lists. listed lists t) (take_all c.loop-list.list-index c.args.lists.now (omega arith))
