use Rattle.std.proofs.Common.{◌∙◌}
use Rattle.std.proofs.lemmas.List.Elements.{All-push}
use Rattle.toml.specs.View.{view}
use Rattle.plan_text.specs.Restarts.{restart_in, restarts_at, IsRestart}
use Rattle.plan_text.proofs.ReadSteps.{handed_on, read_each-more, read_each-stops}
use Rattle.plan_text.proofs.restarts.read_restarts.Goals as goal

pub loop-value-preserved : goal.loop-value-preserved
loop-value-preserved c =
    let n = c.args.setting.now.n in
    let faulty = c.args.faulty.now in
    let earlier = c.loop-value.restarts.items in
    rw c.in_ok-push.ensures.items (record {
      so_far = c.loop-value.invariant.so_far
          ∙ read_each-more (restart_in n faulty) view earlier c.in_ok-values.values.now c.loop-value.value-index c.value-item.result
          c.in_ok-restart.restart c.loop-value-test.true
          (rw (← c.value-item.is, ← c.deref.ensures.value) c.in_ok-restart.ensures.exact);
      marks = rw c.deref.ensures.value at c.in_ok-restart.ensures.marks;
      each = All-push (IsRestart n faulty) earlier c.in_ok-restart.restart c.loop-value.invariant.each c.in_ok-restart.ensures.rules;
    })

pub returns-in_err-restart-clause-exact : goal.returns-in_err-restart-clause-exact
unfolding restarts_at
returns-in_err-restart-clause-exact c =
    let read = restart_in c.args.setting.now.n c.args.faulty.now in
    let error = c.in_err-restart.field-0.0 in
    handed_on _ c.from_residual-in_err-restart.result error _ c.from_residual-in_err-restart.ensures.1
    (rw (c.in_ok-values.ensures, c.loop-value.invariant.so_far)
    (read_each-stops read view c.loop-value.restarts.items c.in_ok-values.values.now c.loop-value.value-index c.value-item.result error c.loop-value-test.true
    (rw (← c.value-item.is, ← c.deref.ensures.value) c.in_err-restart.ensures.exact)))
