use Rattle.std.proofs.Common.{◌∙◌}
use Rattle.std.proofs.lemmas.List.Elements.{All-push}
use Rattle.toml.specs.View.{view}
use Rattle.plan_text.specs.Links.{link_in, links_at, IsLinkFault}
use Rattle.plan_text.proofs.ReadSteps.{handed_on, read_each-more, read_each-stops}
use Rattle.plan_text.proofs.links.read_links.Goals as goal

pub loop-value-preserved : goal.loop-value-preserved
loop-value-preserved c =
    let n = c.args.setting.now.n in
    let earlier = c.loop-value.links.items in
    rw c.in_ok-push.ensures.items (record {
      so_far = c.loop-value.invariant.so_far
          ∙ read_each-more (link_in n) view earlier c.in_ok-values.values.now c.loop-value.value-index c.value-item.result
          c.in_ok-link.link c.loop-value-test.true
          (rw (← c.value-item.is, ← c.deref.ensures.value) c.in_ok-link.ensures.exact);
      marks = rw c.deref.ensures.value at c.in_ok-link.ensures.marks;
      each = All-push (IsLinkFault n) earlier c.in_ok-link.link c.loop-value.invariant.each c.in_ok-link.ensures.rules;
    })

pub returns-in_err-link-clause-exact : goal.returns-in_err-link-clause-exact
unfolding links_at
returns-in_err-link-clause-exact c =
    let read = link_in c.args.setting.now.n in
    let error = c.in_err-link.field-0.0 in
    handed_on _ c.from_residual-in_err-link.result error _ c.from_residual-in_err-link.ensures.1
    (rw (c.in_ok-values.ensures, c.loop-value.invariant.so_far)
    (read_each-stops read view c.loop-value.links.items c.in_ok-values.values.now c.loop-value.value-index c.value-item.result error c.loop-value-test.true
    (rw (← c.value-item.is, ← c.deref.ensures.value) c.in_err-link.ensures.exact)))
