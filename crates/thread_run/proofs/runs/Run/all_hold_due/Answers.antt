use Rattle.std.proofs.Common.{◌≡◌, ◌∙◌, ◌+◌, ◌<◌, ◌≤◌, ℕ, zero, suc, List, [], ◌∷◌, Some, true, ap, arith, get_or, length, subst, sym}
use Rattle.std.specs.Prelude.{slice_get}
use Rattle.std.proofs.lemmas.Option.{same_Some, slice_get-get_or, slice_get_within}
use Rattle.plan_text.specs.declared.plan.Plan.{Plan}
use Rattle.thread_run.specs.declared.runs.Run.{Run}
use Rattle.thread_run.specs.Steps.{AnswersDone, holds_by}
use Rattle.thread_run.specs.Workers.{Working}
use Rattle.thread_run.proofs.runs.Run.all_hold_due.Goals as goal

-- what holds below a place and there
more_hold : {X : Type 0} (P : X → Type 0) (xs : List X) (k : ℕ) (x : X) → k < length xs → x ≡ get_or xs k x → P x
    → ((i : ℕ) (d : X) → i < k → slice_get xs i ≡ Some d → P d) → (i : ℕ) (d : X) → i < k + 1 → slice_get xs i ≡ Some d → P d
more_hold P [] k x lt is here below i d l at = absurd (omega (arith, lt))
more_hold P (y ∷ xs) zero x lt is here below zero d l at = subst P (is ∙ same_Some y d at) here
more_hold P (y ∷ xs) zero x lt is here below (suc i) d l at = absurd (omega (arith, l))
more_hold P (y ∷ xs) (suc k) x lt is here below zero d l at = below zero d (omega arith) at
more_hold P (y ∷ xs) (suc k) x lt is here below (suc i) d l at =
    more_hold P xs k x (omega (arith, lt)) is here (λ j e m it. below (suc j) e (omega (arith, m)) it) i d (omega (arith, l)) at

-- where each of them holds all, all do
all_asked : {S : Type 0} (plan : Plan) (run : Run S) (k : ℕ) → length run.workers.items ≤ k
    → ((at : ℕ) (w : Working S) → at < k → slice_get run.workers.items at ≡ Some w → holds_by plan.faulty run.due w ≡ true) → AnswersDone plan run true
all_asked plan run k enough each = λ at w is. (let within = slice_get_within run.workers.items at w is in each at w (omega (arith, within, enough)) is)

pub loop-worker-preserved : goal.loop-worker-preserved
loop-worker-preserved g c =
    let workers = c.args.self.now.workers.items in
    let value = c.as_slice-worker-items.ensures.value in
    let k = c.loop-worker.worker-index in
    let worker = c.worker-item.result in
    more_hold (λ (w : Working g.row.S.Denot). holds_by c.args.plan.now.faulty c.args.self.now.due w ≡ true) workers k worker
    (subst (λ (l : List (Working g.row.S.Denot)). k < length l) value c.loop-worker-test.true)
    (c.worker-item.is ∙ ap (λ (l : List (Working g.row.S.Denot)). get_or l k worker) value)
    (sym c.in_ok-holds_due.ensures ∙ c.if-not-branch.false)
    c.loop-worker.invariant

pub returns-then-not-branch : goal.returns-then-not-branch
returns-then-not-branch g c =
    let workers = c.args.self.now.workers.items in
    let value = c.as_slice-worker-items.ensures.value in
    let k = c.loop-worker.worker-index in
    let worker = c.worker-item.result in
    let lt = subst (λ (l : List (Working g.row.S.Denot)). k < length l) value c.loop-worker-test.true in
    let is = c.worker-item.is ∙ ap (λ (l : List (Working g.row.S.Denot)). get_or l k worker) value in
    record {
      at = k;
      worker = worker;
      there = slice_get-get_or workers k worker lt ∙ ap Some (sym is);
      lacks = sym c.in_ok-holds_due.ensures ∙ c.if-not-branch.true;
    }

pub returns : goal.returns
returns g c =
    let end = c.loop-worker-test.false in
    let len = ap length c.as_slice-worker-items.ensures.value in
    all_asked c.args.plan.now c.args.self.now c.loop-worker.worker-index (omega (arith, end, len)) c.loop-worker.invariant
