use Rattle.std.proofs.Common.{ℕ, List, ap, ◌∙◌, arith}
use Rattle.durable_node.specs.Check.{next_digest}
use Rattle.durable_node.specs.Log.{event_in}
use Rattle.durable_node.proofs.Records.{all_of, moved_on, next_is, ok_so}
use Rattle.durable_node.proofs.reading.next_event.Goals as goal

pub returns-in-Some-clause-next : goal.returns-in-Some-clause-next
returns-in-Some-clause-next c =
    let rest : List ℕ = c.args.rest.now in
    let digest : List ℕ = c.args.digest.now in
    let b = rw c.in-Some.is at c.next_body.ensures.checked in
    ok_so c.read_body.result _ _ (λ event h. next_is digest rest
    (all_of rest (λ i. omega (arith, c.type_inv.rest i))) c.requires b.size b.check event (h ∙ ap event_in b.is)) c.read_body.ensures

pub returns-in-Some-clause-moved : goal.returns-in-Some-clause-moved
returns-in-Some-clause-moved c =
    let rest : List ℕ = c.args.rest.now in
    let digest : List ℕ = c.args.digest.now in
    let b = rw c.in-Some.is at c.next_body.ensures.checked in
    ok_so c.read_body.result _ _
    (λ event h. moved_on digest rest _ event
    (next_is digest rest (all_of rest (λ i. omega (arith, c.type_inv.rest i))) c.requires b.size b.check event (h ∙ ap event_in b.is))
    (b.moved ∙ ap (next_digest digest) b.is)) c.read_body.ensures
