use Rattle.std.proofs.Common.{◌≡◌, [], arith}
use Rattle.mailbox.specs.Boxes.{Opened as Box, receiver_in}
use Rattle.thread_run.proofs.InitialPasses.{all_snoc, count_snoc, dealt_more, map_snoc}
use Rattle.thread_run.proofs.start.open_boxes.Goals as goal

pub loop-at-preserved : goal.loop-at-preserved
loop-at-preserved c = record {
  count = count_snoc c.loop-at.boxes.items _ c.in_ok-inbox.inbox c.loop-at.at c.in_ok-push.ensures.items c.loop-at.invariant.count;
  senders = all_snoc (λ (b : Box). b.senders ≡ c.args.n) c.loop-at.boxes.items _ c.in_ok-inbox.inbox c.in_ok-push.ensures.items
      c.loop-at.invariant.senders c.in_ok-inbox.ensures.senders;
  takes = map_snoc (λ (b : Box). receiver_in b []) c.loop-at.boxes.items _ c.in_ok-inbox.inbox c.loop-at.takes.items _ c.in_ok-inbox.take
      c.in_ok-push.ensures.items c.in_ok-push-2.ensures.items c.loop-at.invariant.takes c.in_ok-inbox.ensures.take;
  passes = dealt_more c.args.n c.loop-at.boxes.items _ c.loop-at.passes.items _ c.in_ok-inbox.inbox c.in_ok-inbox.senders
      c.in_ok-push.ensures.items c.in_ok-push-3.ensures.items c.loop-at.invariant.passes
      (omega (arith, c.in_ok-inbox.ensures.count, c.in_ok-inbox.senders.ok.0)) c.in_ok-inbox.ensures.each;
}
