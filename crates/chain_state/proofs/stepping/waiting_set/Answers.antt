use Rattle.std.proofs.Common.{ℕ, [], ◌∷◌, List, Bool, get_or, map, take, sym, ap, ap₂, ◌∙◌, arith}
use Rattle.std.specs.Prelude.{◌||◌}
use Rattle.std.specs.List.{list_any}
use Rattle.std.proofs.lemmas.List.{map_more, take_all}
use Rattle.std.proofs.lemmas.List.Folds.{list_any-append}
use Rattle.seq_base.proofs.Points.{or_false}
use Rattle.chain_state.specs.declared.stepping.Stepped.{Stepped}
use Rattle.chain_state.specs.Shown.{shown}
use Rattle.chain_state.specs.Standings.{Stage, stage_waits}
use Rattle.chain_state.specs.Stepping.{placed}
use Rattle.chain_state.proofs.stepping.waiting_set.Goals as goal

pub loop-step-preserved : goal.loop-step-preserved
loop-step-preserved c = λ t.
    let waits : ℕ × Stage → Bool = λ step. stage_waits t step.1 in
    let xs = c.args.stepped.now in
    let i = c.loop-step.step-index in
    let step = c.step-item.result in
    let last = get_or xs i step in
    c.in_ok-insert_waiting.ensures t
    ∙ ap₂ ◌||◌ (c.loop-step.invariant t) (ap (λ (s : Stepped). waits (placed s)) c.step-item.is ∙ sym (or_false (waits (placed last))))
    ∙ sym (list_any-append waits (map placed (take i xs)) (placed last ∷ []))
    ∙ sym (ap (list_any waits) (map_more placed xs i step c.loop-step-test.true))

pub returns : goal.returns
returns c = λ t.
    let xs = c.args.stepped.now in
    let all = take_all c.loop-step.step-index xs (omega (arith, c.loop-step-test.false)) in
    c.in_ok-insert_waiting-2.ensures t
    ∙ ap (λ (waits : Bool). waits || stage_waits t (shown c.args.own.now))
    (c.loop-step.invariant t ∙ ap (λ (steps : List Stepped). list_any (λ (step : ℕ × Stage). stage_waits t step.1) (map placed steps)) all)
