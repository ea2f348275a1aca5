use Rattle.std.proofs.Common.{◌≡◌, ◌<◌, ◌∙◌, List, length, take, true, arith, sym, ap, subst}
use Rattle.std.proofs.lemmas.List.{take_more_set, length-set}
use Rattle.seq_base.specs.declared.tx.Tx.{Tx}
use Rattle.intake.specs.Arriving.{given, is_waiting}
use Rattle.intake.specs.Desk.{Desk}
use Rattle.intake.specs.Offered.{AreWaiting, given_all}
use Rattle.intake.proofs.Turns.{waiting_more, given_more}
use Rattle.intake.proofs.intake.Intake.give_all.Goals as goal
use Rattle.intake.proofs.intake.Intake.give_all.Goals.{then-is_waiting, else-is_waiting}

pub loop-at-preserved : goal.loop-at-preserved
loop-at-preserved c =
    let old = c.args.self.now in
    let tx = c.index.result.now in
    let items = c.loop-at.given.items in
    let kept = c.loop-at.kept in
    elim c.if-is_waiting.branch [
      | then-is_waiting w ↦
          let fits : kept < length items = omega (arith, c.loop-at.invariant.few, c.loop-at.invariant.same_length) in
          let more = take_more_set items kept tx fits in
          let waits : is_waiting tx (given_all (take kept items) old) ≡ true =
          subst (λ (d : Desk). is_waiting tx d ≡ true) c.loop-at.invariant.desk (sym w.if-is_waiting.ensures) in
          rw (w.given-is, w.kept-is, w.self-inside-is) (record {
            waiting = subst (λ (l : List Tx). AreWaiting l old) (sym more) (waiting_more (take kept items) tx old c.loop-at.invariant.waiting waits);
            desk = w.give.ensures.after ∙ ap (given tx) c.loop-at.invariant.desk ∙ sym (given_more (take kept items) tx old)
                ∙ ap (λ (l : List Tx). given_all l old) (sym more);
            few = omega (arith, c.loop-at.invariant.few);
            same_length = length-set items kept tx ∙ c.loop-at.invariant.same_length;
          })
      | else-is_waiting w ↦
          rw (w.given-is, w.kept-is, w.self-inside-is) (record {
            waiting = c.loop-at.invariant.waiting;
            desk = c.loop-at.invariant.desk;
            few = omega (arith, c.loop-at.invariant.few);
            same_length = c.loop-at.invariant.same_length;
          })
    ]
