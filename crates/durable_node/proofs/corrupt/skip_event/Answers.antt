use Rattle.std.proofs.Common.{refl, sym, ◌∙◌, arith}
use Rattle.durable_node.proofs.Records.{all_of}
use Rattle.durable_node.proofs.Scans.{no_event, skips}
use Rattle.durable_node.proofs.corrupt.skip_event.Goals as goal

pub returns-in-Some-clause-event : goal.returns-in-Some-clause-event
returns-in-Some-clause-event c =
    λ some. skips _ c.args.rest.now _ _ (all_of c.args.rest.now (λ i. omega (arith, c.type_inv.rest i))) c.requires
    (rw c.in-Some.is at c.next_body.ensures.checked) _ refl (sym c.is_event.ensures ∙ some)

pub returns-in-Some-clause-corrupt : goal.returns-in-Some-clause-corrupt
returns-in-Some-clause-corrupt c =
    λ none. no_event _ c.args.rest.now _ _ (all_of c.args.rest.now (λ i. omega (arith, c.type_inv.rest i))) c.requires
    (rw c.in-Some.is at c.next_body.ensures.checked) _ refl (sym c.is_event.ensures ∙ none)
