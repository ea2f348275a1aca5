use Rattle.std.proofs.Common.{◌∙◌}
use Rattle.std.proofs.lemmas.List.Elements.{All-push}
use Rattle.toml.specs.View.{view}
use Rattle.plan_text.specs.Arrivals.{arrival_in, arrivals_at, IsArrival}
use Rattle.plan_text.proofs.ReadSteps.{handed_on, read_each-more, read_each-stops}
use Rattle.plan_text.proofs.arrivals.read_arrivals.Goals as goal

pub loop-value-preserved : goal.loop-value-preserved
loop-value-preserved c =
    let n = c.args.setting.now.n in
    let earlier = c.loop-value.arrivals.items in
    rw c.in_ok-push.ensures.items (record {
      so_far = c.loop-value.invariant.so_far
          ∙ read_each-more (arrival_in n c.args.clients.now) view earlier c.in_ok-values.values.now c.loop-value.value-index
          c.value-item.result c.in_ok-arrival.arrival c.loop-value-test.true
          (rw (← c.value-item.is, ← c.deref.ensures.value) c.in_ok-arrival.ensures.exact);
      met = rw c.deref.ensures.value at c.in_ok-arrival.ensures.met;
      each = All-push (IsArrival n) earlier c.in_ok-arrival.arrival c.loop-value.invariant.each c.in_ok-arrival.ensures.rules;
    })

pub returns-in_err-arrival-clause-exact : goal.returns-in_err-arrival-clause-exact
unfolding arrivals_at
returns-in_err-arrival-clause-exact c =
    let read = arrival_in c.args.setting.now.n c.args.clients.now in
    let error = c.in_err-arrival.field-0.0 in
    handed_on _ c.from_residual-in_err-arrival.result error _ c.from_residual-in_err-arrival.ensures.1
    (rw (c.in_ok-values.ensures, c.loop-value.invariant.so_far)
    (read_each-stops read view c.loop-value.arrivals.items c.in_ok-values.values.now c.loop-value.value-index c.value-item.result error c.loop-value-test.true
    (rw (← c.value-item.is, ← c.deref.ensures.value) c.in_err-arrival.ensures.exact)))
