use Rattle.std.proofs.Common.{◌<◌, ◌∙◌, All, List, ap, length, subst, sym, rules}
use Rattle.mailbox.specs.Boxes.{Sender}
use Rattle.thread_run.specs.Finishing.{later_columns}
use Rattle.thread_run.specs.Starting.{rows_in}
use Rattle.thread_run.proofs.InitialPasses.{later_dropped, none_dropped, sends_more, some_dropped}
use Rattle.thread_run.proofs.start.sends_of.Goals as goal

pub loop-at-init : goal.loop-at-init
loop-at-init c = record { passes = none_dropped (rows_in c.args.passes.items); sends = search rules }

pub first_of_each-requires : goal.first_of_each-requires
first_of_each-requires c =
    subst (λ (rows : List (List Sender)). All (λ row. 0 < length row) rows) (sym c.loop-at.invariant.passes)
    (some_dropped c.args.n c.loop-at.at (rows_in c.args.passes.items) c.loop-at-test.true c.requires)

pub loop-at-preserved : goal.loop-at-preserved
loop-at-preserved c = record {
  passes = c.in_ok-first_of_each.ensures.rest ∙ ap later_columns c.loop-at.invariant.passes ∙ later_dropped c.loop-at.at (rows_in c.args.passes.items);
  sends = ap rows_in c.in_ok-push.ensures.items
      ∙ sends_more c.loop-at.sends.items c.in_ok-first_of_each.field-0 c.loop-at.at (rows_in c.args.passes.items)
      (rows_in c.loop-at.passes.items) c.loop-at.invariant.passes c.in_ok-first_of_each.ensures.first c.loop-at.invariant.sends;
}
