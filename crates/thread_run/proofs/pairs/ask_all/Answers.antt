use Rattle.std.proofs.Common.{◌≡◌, ◌∙◌, ℕ, List, ap, arith, length, refl, subst, sym}
use Rattle.std.specs.Prelude.{Bool, false, if◌then◌else◌}
use Rattle.thread_run.specs.Workers.{Working}
use Rattle.thread_run.specs.Pairs.{AnswersRow, Decided}
use Rattle.thread_run.proofs.Comparisons.{decided_more, decided_none}
use Rattle.thread_run.proofs.pairs.ask_all.Goals as goal
use Rattle.thread_run.proofs.pairs.ask_all.Goals.{then-whole, else-whole}

pub loop-receiver-init : goal.loop-receiver-init
loop-receiver-init g c = (refl, decided_none (AnswersRow c.args.workers.now))

pub loop-receiver-preserved : goal.loop-receiver-preserved
loop-receiver-preserved g c =
    let i = c.loop-receiver.invariant in
    let asked = AnswersRow c.args.workers.now in
    let k = c.loop-receiver.receiver in
    let one = c.took_all-one.result in
    let here = subst (λ (cs : List (Working g.row.S.Denot)). AnswersRow cs k one) i.0 c.took_all-one.ensures.answers in
    let both : c.if-whole.whole ≡ (if c.loop-receiver.whole then one else false) =
    elim c.if-whole.branch [
      | then-whole w ↦ w.whole-is ∙ sym (ap (λ (b : Bool). if b then one else false) w.if-whole.true)
      | else-whole w ↦ w.whole-is ∙ w.if-whole.false ∙ sym (ap (λ (b : Bool). if b then one else false) w.if-whole.false)
    ] in
    (c.took_all-one.ensures.same ∙ i.0, rw both (decided_more asked k c.loop-receiver.whole one i.1 here))

pub returns : goal.returns
returns g c =
    let i = c.loop-receiver.invariant in
    let last = c.loop-receiver-test.false in
    let within = c.loop-receiver.auto.receiver-end in
    let all : c.loop-receiver.receiver ≡ length c.args.workers.now = omega (arith, last, within) in
    record { same = i.0; answers = subst (λ (k : ℕ). Decided (AnswersRow c.args.workers.now) k c.loop-receiver.whole) all i.1 }
