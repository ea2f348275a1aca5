use Rattle.std.proofs.Common.{◌≡◌, ◌∙◌, ℕ, List, ap, arith, length, refl, subst, sym}
use Rattle.std.specs.Prelude.{Bool, false, if◌then◌else◌}
use Rattle.thread_run.specs.Workers.{Working}
use Rattle.thread_run.specs.Pairs.{AnswersAt, Decided}
use Rattle.thread_run.proofs.Comparisons.{decided_more, decided_none}
use Rattle.thread_run.proofs.pairs.took_all.Goals as goal
use Rattle.thread_run.proofs.pairs.took_all.Goals.{then-whole, else-whole}

pub loop-sender-init : goal.loop-sender-init
loop-sender-init g c = (refl, decided_none (AnswersAt c.args.workers.now c.args.receiver))

pub loop-sender-preserved : goal.loop-sender-preserved
loop-sender-preserved g c =
    let i = c.loop-sender.invariant in
    let asked = AnswersAt c.args.workers.now c.args.receiver in
    let k = c.loop-sender.sender in
    let one = c.two_at-one.result in
    let here = subst (λ (cs : List (Working g.row.S.Denot)). AnswersAt cs c.args.receiver k one) i.0 c.two_at-one.ensures.answers in
    let both : c.if-whole.whole ≡ (if c.loop-sender.whole then one else false) =
    elim c.if-whole.branch [
      | then-whole w ↦ w.whole-is ∙ sym (ap (λ (b : Bool). if b then one else false) w.if-whole.true)
      | else-whole w ↦ w.whole-is ∙ w.if-whole.false ∙ sym (ap (λ (b : Bool). if b then one else false) w.if-whole.false)
    ] in
    (c.two_at-one.ensures.same ∙ i.0, rw both (decided_more asked k c.loop-sender.whole one i.1 here))

pub returns : goal.returns
returns g c =
    let i = c.loop-sender.invariant in
    let last = c.loop-sender-test.false in
    let within = c.loop-sender.auto.sender-end in
    let all : c.loop-sender.sender ≡ length c.args.workers.now = omega (arith, last, within) in
    record { same = i.0; answers = subst (λ (k : ℕ). Decided (AnswersAt c.args.workers.now c.args.receiver) k c.loop-sender.whole) all i.1 }
