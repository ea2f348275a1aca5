use Rattle.std.proofs.Common.{◌≡◌, ◌∙◌, ◌+◌, ◌<◌, ℕ, List, [], ◌∷◌, ap, get_or, length, sym, take}
use Rattle.std.specs.List.{fold}
use Rattle.std.proofs.lemmas.List.{take_all, take_more}
use Rattle.std.proofs.lemmas.List.Sums.{fold-append}
use Rattle.thread_run.specs.Steps.{floor_by}
use Rattle.thread_run.proofs.runs.floor_of.Goals as goal

-- one element more
fold_more : {A X : Type 0} (f : A → X → A) (a : A) (xs : List X) (k : ℕ) (x : X) (b c : A) → k < length xs → x ≡ get_or xs k x
    → b ≡ fold f a (take k xs) → c ≡ f b x → c ≡ fold f a (take (k + 1) xs)
fold_more {A = A} f a xs k x b c lt is so one =
    one ∙ ap (λ (z : A). f z x) so ∙ ap (f (fold f a (take k xs))) is ∙ sym (fold-append f a (take k xs) (get_or xs k x ∷ []))
    ∙ ap (fold f a) (sym (take_more xs k x lt))

pub loop-worker-preserved : goal.loop-worker-preserved
loop-worker-preserved g c =
    fold_more (floor_by c.args.plan.now.faulty) 0 c.args.workers.now c.loop-worker.worker-index c.worker-item.result c.loop-worker.floor
    c.floor_by-floor.result c.loop-worker-test.true c.worker-item.is c.loop-worker.invariant c.floor_by-floor.ensures

pub returns : goal.returns
returns g c = c.loop-worker.invariant
    ∙ ap (fold (floor_by c.args.plan.now.faulty) 0) (take_all c.loop-worker.worker-index c.args.workers.now c.loop-worker-test.false)
