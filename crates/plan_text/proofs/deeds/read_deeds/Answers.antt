use Rattle.std.proofs.Common.{◌∙◌}
use Rattle.std.proofs.lemmas.List.Elements.{All-push}
use Rattle.toml.specs.View.{view}
use Rattle.plan_text.specs.Deeds.{deed_in, deeds_at, IsDeed}
use Rattle.plan_text.proofs.ReadSteps.{handed_on, read_each-more, read_each-stops}
use Rattle.plan_text.proofs.deeds.read_deeds.Goals as goal

pub loop-value-preserved : goal.loop-value-preserved
loop-value-preserved c =
    let faulty = c.args.faulty.now in
    let earlier = c.loop-value.deeds.items in
    rw c.in_ok-push.ensures.items (record {
      so_far = c.loop-value.invariant.so_far
          ∙ read_each-more (deed_in faulty c.args.views) view earlier c.in_ok-values.values.now c.loop-value.value-index c.value-item.result
          c.in_ok-deed.deed c.loop-value-test.true
          (rw (← c.value-item.is, ← c.deref.ensures.value) c.in_ok-deed.ensures.exact);
      marks = rw c.deref.ensures.value at c.in_ok-deed.ensures.marks;
      each = All-push (IsDeed faulty c.args.views) earlier c.in_ok-deed.deed c.loop-value.invariant.each c.in_ok-deed.ensures.rules;
    })

pub returns-in_err-deed-clause-exact : goal.returns-in_err-deed-clause-exact
unfolding deeds_at
returns-in_err-deed-clause-exact c =
    let read = deed_in c.args.faulty.now c.args.views in
    let error = c.in_err-deed.field-0.0 in
    handed_on _ c.from_residual-in_err-deed.result error _ c.from_residual-in_err-deed.ensures.1
    (rw (c.in_ok-values.ensures, c.loop-value.invariant.so_far)
    (read_each-stops read view c.loop-value.deeds.items c.in_ok-values.values.now c.loop-value.value-index c.value-item.result error c.loop-value-test.true
    (rw (← c.value-item.is, ← c.deref.ensures.value) c.in_err-deed.ensures.exact)))
