use Rattle.std.proofs.Common.{◌≡◌, ◌+◌, ◌-◌, ◌≤◌, [], length}
use Rattle.std.specs.Prelude.{All}
use Rattle.seq_base.specs.Lists.{AreDistinct}
use Rattle.plan_text.specs.OrderReading.{lists_after}
use Rattle.plan_text.proofs.order.read_lists.Given as goal

abbrev pub invariant-loop-number : goal.invariant-loop-number
invariant-loop-number l = record {
  so_far : lists_after l.quorum 2 [] l.text ≡ lists_after (l.quorum + 2 - l.number) l.number l.lists.items l.rest;
  short : All (λ list. length list ≤ 128) l.lists.items;
  distinct : All AreDistinct l.lists.items;
  read : length l.lists.items + 2 ≡ l.number;
}
