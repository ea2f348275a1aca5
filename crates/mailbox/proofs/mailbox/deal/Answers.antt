use Rattle.std.proofs.Common.{rules, ap, ◌∙◌, refl}
use Rattle.mailbox.specs.Mail.{dealt}
use Rattle.mailbox.proofs.Posts.{deals, dealt_more}
use Rattle.mailbox.proofs.mailbox.deal.Goals as goal

pub another-pass-requires-clause-rule : goal.another-pass-requires-clause-rule
another-pass-requires-clause-rule c = deals _ _ (ap (λ v. v.takes) c.loop-from.invariant.1) (ap (λ v. v.sends) c.loop-from.invariant.1)

pub loop-from-preserved : goal.loop-from-preserved
loop-from-preserved c =
    let made = c.another-pass.ensures in
    let pass = c.another-pass.result in (
      made.queue.0,
      made.rule.0 ∙ ap dealt c.loop-from.invariant.1,
      dealt_more c.args.queue.now c.loop-from.from c.loop-from.passes.items c.push.new.self.items
          record { box = record { web = pass.web; heap = pass.heap }; from = c.loop-from.from; sent = pass.me.view.client.sent }
          c.loop-from.invariant.2 (search rules) made.queue.2.0.0 made.queue.2.0.1 refl (ap (λ v. v.sent) made.rule.1),
    )
