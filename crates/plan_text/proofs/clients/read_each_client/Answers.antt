use Rattle.std.proofs.Common.{◌≤◌, ◌∙◌, ◌∷◌, [], arith, length-append}
use Rattle.std.proofs.lemmas.List.Elements.{All-push}
use Rattle.toml.specs.View.{view}
use Rattle.plan_text.specs.declared.plan.Client.{Client}
use Rattle.plan_text.specs.Clients.{client_in, IsClient}
use Rattle.plan_text.proofs.ReadSteps.{handed_on, read_each-more, read_each-stops}
use Rattle.plan_text.proofs.clients.read_each_client.Goals as goal

pub loop-value-preserved : goal.loop-value-preserved
loop-value-preserved c =
    let earlier = c.loop-value.clients.items in
    rw c.in_ok-push.ensures.items (record {
      so_far = c.loop-value.invariant.so_far
          ∙ read_each-more client_in view earlier c.args.values.now c.loop-value.value-index c.value-item.result c.in_ok-client.client c.loop-value-test.true
          (rw (← c.value-item.is, ← c.deref.ensures.value) c.in_ok-client.ensures.exact);
      few = rw (length-append earlier (c.in_ok-client.client ∷ [])) (omega (arith, c.loop-value.invariant.few));
      counts = All-push (λ (client : Client). client.count ≤ 65536) earlier c.in_ok-client.client c.loop-value.invariant.counts c.in_ok-client.ensures.count;
      each = All-push IsClient earlier c.in_ok-client.client c.loop-value.invariant.each c.in_ok-client.ensures.rules;
    })

pub returns-in_err-client-clause-exact : goal.returns-in_err-client-clause-exact
returns-in_err-client-clause-exact c =
    let read = client_in in
    let error = c.in_err-client.field-0.0 in
    handed_on _ c.from_residual.result error _ c.from_residual.ensures.1
    (rw c.loop-value.invariant.so_far
    (read_each-stops read view c.loop-value.clients.items c.args.values.now c.loop-value.value-index c.value-item.result error c.loop-value-test.true
    (rw (← c.value-item.is, ← c.deref.ensures.value) c.in_err-client.ensures.exact)))
