use Rattle.std.proofs.Common.{rules, ◌<◌, length, ap, sym, subst, ◌∙◌, arith}
use Rattle.std.specs.Prelude.{slice_set}
use Rattle.std.proofs.lemmas.Bool.Decides.{nat_tests}
use Rattle.std.proofs.lemmas.Result.{on_ok_weaker}
use Rattle.mailbox.specs.Boxes.{IsSenderOf}
use Rattle.client_logs.proofs.Zips.{zip_length, zip_at, zip_set}
use Rattle.thread_run.proofs.Posts.{posted_past, posted_at}
use Rattle.thread_run.proofs.replica.post.Goals as goal

pub returns-then-to-sends-clause-posted : goal.returns-then-to-sends-clause-posted
returns-then-to-sends-clause-posted g c =
    let z = zip_length IsSenderOf _ _ c.requires in
    sym (posted_past c.args.sends.now c.args.envelope (grind (arith, nat_tests, z)))

pub send-requires : goal.send-requires
send-requires g c =
    let below : c.args.envelope.to < length c.args.sends.now = grind (arith, nat_tests, c.if-to-sends.false) in
    let there = zip_at IsSenderOf c.args.boxes.now c.args.sends.now c.args.envelope.to c.index-boxes-to.result c.index-sends-to.result c.requires below in
    search rules

pub returns-clause-posted : goal.returns-clause-posted
returns-clause-posted g c =
    let below : c.args.envelope.to < length c.args.sends.now = grind (arith, nat_tests, c.if-to-sends.false) in
    on_ok_weaker c.send.result
    (λ sent. ap (slice_set c.args.sends.now c.args.envelope.to) sent ∙ sym (posted_at c.args.sends.now c.args.envelope c.index-sends-to.result below))
    c.send.ensures.sent

pub returns-clause-own : goal.returns-clause-own
returns-clause-own g c =
    zip_set IsSenderOf c.args.boxes.now c.args.sends.now c.args.envelope.to c.index-boxes-to.result _ c.requires
    (subst (λ (b : _). IsSenderOf b c.send.new.pass) (search rules) c.send.ensures.own)
