use Rattle.std.proofs.Common.{◌≡◌, length, refl, ap, subst, ◌∙◌, inl, inr, arith}
use Rattle.std.specs.Vec.{with_items}
use Rattle.std.proofs.lemmas.Bool.Decides.{nat_tests}
use Rattle.std.proofs.lemmas.List.{with_items_is}
use Rattle.thread_run.specs.declared.runs.Run.{Run}
use Rattle.thread_run.specs.Pairs.{AllCompared}
use Rattle.thread_run.specs.Steps.{AnswersDone}
use Rattle.thread_run.proofs.RoundLoop.{decided_next, hold_same, lacks_same}
use Rattle.thread_run.proofs.runs.Run.decide.Goals.{then-branch-via-then-branch, then-branch-via-else-branch+then-self-plan}
use Rattle.thread_run.proofs.runs.Run.decide.Goals as goal

pub returns-then-branch : goal.returns-then-branch
returns-then-branch g c =
    let self = c.args.self.now in
    let looked = c.all_whole-whole.ensures in
    let same = looked.same ∙ c.as_mut_slice.ensures.value in
    let ok = self.workers.ok.0 in
    let count = ap length same in
    let items : (with_items self.workers c.all_whole-whole.new.workers).items ≡ self.workers.items =
    with_items_is self.workers c.all_whole-whole.new.workers (omega (arith, ok, count)) ∙ same in (
      (refl, items),
      (c.all_whole-whole.result, subst (AllCompared c.all_whole-whole.result) c.as_mut_slice.ensures.value looked.compared),
      elim c.then-branch.branch [
        | then-branch-via-then-branch w ↦
            inl (hold_same c.args.plan.now self (record self { workers = with_items self.workers c.all_whole-whole.new.workers }) refl items
            (subst (AnswersDone c.args.plan.now (record self { workers = with_items self.workers c.all_whole-whole.new.workers }))
            w.if-branch.true c.in_ok-all_hold_due.ensures))
        | then-branch-via-else-branch+then-self-plan w ↦ (let over = w.if-self-plan.true in inr (inl (grind (arith, nat_tests, over))))
      ],
    )

pub returns : goal.returns
returns g c =
    let self = c.args.self.now in
    let looked = c.all_whole-whole.ensures in
    let same = looked.same ∙ c.as_mut_slice.ensures.value in
    let ok = self.workers.ok.0 in
    let count = ap length same in
    let mid : Run g.row.S.Denot = record self { workers = with_items self.workers c.all_whole-whole.new.workers } in
    let items : mid.workers.items ≡ self.workers.items = with_items_is self.workers c.all_whole-whole.new.workers (omega (arith, ok, count)) ∙ same in
    let compared = subst (AllCompared c.all_whole-whole.result) c.as_mut_slice.ensures.value looked.compared in
    let lacks = lacks_same c.args.plan.now self mid refl items (subst (AnswersDone c.args.plan.now mid) c.if-branch.false c.in_ok-all_hold_due.ensures) in
    decided_next c.args.plan.now self mid c.next_round.new.self refl items c.next_round.result c.all_whole-whole.result c.if-self-plan.false
    compared lacks c.next_round.ensures
