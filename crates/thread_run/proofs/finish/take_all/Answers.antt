use Rattle.std.proofs.Common.{◌≡◌, ◌∙◌, ◌++◌, [], ◌∷◌, ap, arith, length, map, refl, rules, sym}
use Rattle.std.specs.Vec.Iter.{into_iter_items}
use Rattle.thread_run.proofs.ConsumedLists.{one_more, used_up}
use Rattle.thread_run.proofs.finish.take_all.Goals as goal

pub loop-worker-init : goal.loop-worker-init
loop-worker-init g c =
    let all = c.into_iter-worker-iterator.ensures.into_iter_gives in
    let ok = c.args.workers.ok.0 in
    let len = ap length all.0 in
    let count = all.1 in record {
      seats = rw all.0 refl;
      own = rw all.0 refl;
      left = omega (arith, ok, len, count);
    }

pub loop-worker-preserved : goal.loop-worker-preserved
loop-worker-preserved g c =
    let i = c.loop-worker.invariant in
    let one = c.in_ok-take_one.ensures in
    let start = c.args.apart.now in
    let workers = c.args.workers.items in
    let old = c.loop-worker.apart in
    let new = c.take_one.new.apart in
    let left = into_iter_items c.loop-worker.worker-iterator in
    let rest = into_iter_items c.next.new.self in
    let worker = c.in-Some.worker in
    let prefix = c.in-Some.ensures.steps.0 in record {
      seats = one_more (map (λ w. w.seat)) (worker.seat ∷ []) old.seats.items new.seats.items
          (start.seats.items ++ map (λ w. w.seat) workers) left rest worker refl one.seats prefix i.seats;
      own = one_more (map (λ w. w.log)) (worker.log ∷ []) old.own.items new.own.items
          (start.own.items ++ map (λ w. w.log) workers) left rest worker refl one.own prefix i.own;
      left = search rules;
    }

pub returns : goal.returns
returns g c =
    let i = c.loop-worker.invariant in
    let now = c.loop-worker.apart in
    let left = into_iter_items c.loop-worker.worker-iterator in
    let none : length left ≡ 0 = sym i.left ∙ c.in-None.ensures.steps.0 in record {
      seats = used_up (map (λ w. w.seat)) now.seats.items _ left refl none i.seats;
      own = used_up (map (λ w. w.log)) now.own.items _ left refl none i.own;
    }
