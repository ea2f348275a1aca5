use Rattle.std.proofs.Common.{◌≡◌, ◌∙◌, ◌+◌, ◌<◌, ◌++◌, ℕ, List, [], ◌∷◌, ap, append_assoc, arith, length, sym}
use Rattle.std.specs.Global.{Vec}
use Rattle.std.proofs.lemmas.Bool.Decides.{nat_tests}
use Rattle.seq_base.specs.declared.tx.Tx.{Tx}
use Rattle.locked_log.specs.History.{Known}
use Rattle.mailbox.specs.Boxes.{Sender as SendPass, Receiver}
use Rattle.replica_seat.specs.Seats.{Seated}
use Rattle.thread_run.specs.Starting.{rows_in, worker_with, workers_from}
use Rattle.thread_run.specs.Workers.{Working}
use Rattle.thread_run.proofs.ConsumedLists.{first}
use Rattle.thread_run.proofs.InitialLists.{none_left}
use Rattle.thread_run.proofs.start.workers_of.Goals as goal

-- one worker more
made : {S : Type 0} (workers more whole : List (Working S)) (at : ℕ) (w : Working S) (seats ss : List (Seated S)) (s : Seated S)
    (own os : List (Known Tx)) (o : Known Tx) (takes ts : List Receiver) (t : Receiver)
    (sends rs : List (Vec SendPass)) (row : Vec SendPass) → seats ≡ s ∷ ss → own ≡ o ∷ os → takes ≡ t ∷ ts → sends ≡ row ∷ rs
    → w ≡ worker_with at s o t row.items → more ≡ workers ++ w ∷ []
    → workers ++ (workers_from at seats own takes (rows_in sends)) ≡ whole → more ++ (workers_from (at + 1) ss os ts (rows_in rs)) ≡ whole
made {S = S} workers more whole at w seats ss s own os o takes ts t sends rs row es eo et er new is all =
    let left : List (Working S) = (workers_from (at + 1) ss os ts (rows_in rs)) in
    ap (λ (l : List (Working S)). l ++ left) is ∙ append_assoc workers (w ∷ []) left
    ∙ ap (λ (v : Working S). workers ++ v ∷ left) new
    ∙ ap (λ (l : List (Vec SendPass)). workers ++ (workers_from at (s ∷ ss) (o ∷ os) (t ∷ ts) (rows_in l))) (sym er)
    ∙ ap (λ (l : List Receiver). workers ++ (workers_from at (s ∷ ss) (o ∷ os) l (rows_in sends))) (sym et)
    ∙ ap (λ (l : List (Known Tx)). workers ++ (workers_from at (s ∷ ss) l takes (rows_in sends))) (sym eo)
    ∙ ap (λ (l : List (Seated S)). workers ++ (workers_from at l own takes (rows_in sends))) (sym es)
    ∙ all

pub left-preserved : goal.left-preserved
left-preserved g c =
    let i = c.left.invariant in
    let less = c.remove-seat.ensures.len in
    let old = c.left.seats.ok.0 in
    let some : 0 < length c.left.seats.items = omega (arith, less, old) in
    let few = i.few in
    let own = i.own in
    let takes = i.takes in
    let sends = i.sends in
    let es = first c.left.seats.items c.remove-seat.new.self.items c.remove-seat.result some c.remove-seat.ensures.value c.remove-seat.ensures.items in
    let eo = first c.left.own.items c.remove-log.new.self.items c.remove-log.result
    (omega (arith, some, own)) c.remove-log.ensures.value c.remove-log.ensures.items in
    let et = first c.left.takes.items c.remove-take.new.self.items c.remove-take.result
    (omega (arith, some, takes)) c.remove-take.ensures.value c.remove-take.ensures.items in
    let er = first c.left.sends.items c.remove-row.new.self.items c.remove-row.result
    (omega (arith, some, sends)) c.remove-row.ensures.value c.remove-row.ensures.items in
    let ls = ap length es in
    let lo = ap length eo in
    let lt = ap length et in
    let lr = ap length er in record {
      workers = made c.left.workers.items c.push.new.self.items _ c.left.at c.new_worker.result c.left.seats.items
          c.remove-seat.new.self.items c.remove-seat.result c.left.own.items c.remove-log.new.self.items c.remove-log.result
          c.left.takes.items c.remove-take.new.self.items c.remove-take.result c.left.sends.items c.remove-row.new.self.items
          c.remove-row.result es eo et er c.new_worker.ensures c.in_ok-push.ensures.items i.workers;
      few = omega (arith, few, ls);
      own = omega (arith, own, ls, lo);
      takes = omega (arith, takes, ls, lt);
      sends = omega (arith, sends, ls, lr);
    }

pub returns : goal.returns
returns g c =
    let tested = c.is_empty.ensures in
    let over = c.left-test.false in
    let many = c.left.seats.ok.0 in
    let none : length c.left.seats.items ≡ 0 = grind (arith, nat_tests, tested, over, many) in
    none_left c.left.workers.items _ c.left.at c.left.seats.items c.left.own.items c.left.takes.items (rows_in c.left.sends.items) none c.left.invariant.workers
