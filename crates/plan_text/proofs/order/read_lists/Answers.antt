use Rattle.std.proofs.Common.{[], ◌∷◌, ◌+◌, ◌-◌, ◌≤◌, ◌∙◌, length, length-append, arith}
use Rattle.std.proofs.lemmas.List.Elements.{All-push}
use Rattle.seq_base.specs.Lists.{AreDistinct}
use Rattle.plan_text.proofs.Orders.{lists_on}
use Rattle.plan_text.proofs.order.read_lists.Goals as goal

pub loop-number-preserved : goal.loop-number-preserved
loop-number-preserved c =
    let number = c.loop-number.number in
    let before = c.loop-number.lists.items in
    let txs = c.in_ok-read_order.field-0 in
    let step =
    lists_on (c.args.quorum + 2 - number) (c.args.quorum + 2 - (number + 1)) number before c.loop-number.rest.now c.in_ok-line.line.now
    c.in_ok-line.following.now txs (omega arith) c.in_ok-line.ensures c.in_ok-read_order.ensures.exact in
    rw c.in_ok-push.ensures.items (record {
      so_far = c.loop-number.invariant.so_far ∙ step;
      short = All-push (λ list. length list ≤ 128) before txs c.loop-number.invariant.short c.in_ok-read_order.ensures.short;
      distinct = All-push AreDistinct before txs c.loop-number.invariant.distinct c.in_ok-read_order.ensures.distinct;
      read = omega (arith, c.loop-number.invariant.read, length-append before (txs ∷ []));
    })
