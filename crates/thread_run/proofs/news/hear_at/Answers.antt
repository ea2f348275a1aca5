use Rattle.std.proofs.Common.{◌++◌, ◌∙◌, List, ap, arith}
use Rattle.std.specs.Prelude.{slice_set}
use Rattle.thread_run.specs.Workers.{Ready, Working}
use Rattle.thread_run.specs.News.{informed}
use Rattle.thread_run.proofs.MailNews.{all_after, all_before, exchanged}
use Rattle.thread_run.proofs.news.hear_at.Goals as goal

pub returns : goal.returns
returns g c =
    let s = c.split_at_mut-prefix in
    let t = c.split_at_mut-own in
    let e = c.hear_among.ensures in
    let prefix = s.result.0.now in
    let own = t.result.0.now in
    let new = c.hear_among.new in record {
      heard = λ d.
          ap (λ (l : List (Working g.row.S.Denot)). l ++ (slice_set own 0 new.worker ++ new.back)) e.prefix
          ∙ ap (λ (l : List (Working g.row.S.Denot)). prefix ++ (slice_set own 0 new.worker ++ l)) e.back
          ∙ exchanged informed c.args.workers.now prefix s.result.1.now own t.result.1.now c.args.at c.index-own-0.result d new.worker
          s.ensures.value s.ensures.front_len t.ensures.value t.ensures.front_len e.heard;
    }

pub hear_among-requires-clause-prefix : goal.hear_among-requires-clause-prefix
hear_among-requires-clause-prefix g c κs within =
    let s = c.split_at_mut-prefix in
    all_before (Ready c.args.world.now.logs.items c.args.world.now.boxes.items) c.args.workers.now s.result.0.now s.result.1.now
    s.ensures.value c.requires.ready

pub hear_among-requires-clause-worker : goal.hear_among-requires-clause-worker
hear_among-requires-clause-worker g c κs within =
    let s = c.split_at_mut-prefix in
    let t = c.split_at_mut-own in
    let one = t.ensures.front_len in
    let ready = Ready c.args.world.now.logs.items c.args.world.now.boxes.items in
    let rest = all_after ready c.args.workers.now s.result.0.now s.result.1.now s.ensures.value c.requires.ready in
    (all_before ready s.result.1.now t.result.0.now t.result.1.now t.ensures.value rest 0 c.index-own-0.result (omega (arith, one))).0

pub hear_among-requires-clause-back : goal.hear_among-requires-clause-back
hear_among-requires-clause-back g c κs within =
    let s = c.split_at_mut-prefix in
    let t = c.split_at_mut-own in
    let ready = Ready c.args.world.now.logs.items c.args.world.now.boxes.items in
    let rest = all_after ready c.args.workers.now s.result.0.now s.result.1.now s.ensures.value c.requires.ready in
    all_after ready s.result.1.now t.result.0.now t.result.1.now t.ensures.value rest
