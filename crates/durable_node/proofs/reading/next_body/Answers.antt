use Rattle.std.proofs.Common.{ℕ, List, take, drop, refl, sym, ap, ◌∙◌}
use Rattle.durable_node.specs.Check.{next_digest}
use Rattle.durable_node.specs.Log.{body_size}
use Rattle.durable_node.proofs.Records.{unchecked_next}
use Rattle.durable_node.proofs.reading.next_body.Goals as goal

pub returns-then-not-has_size-clause-unchecked : goal.returns-then-not-has_size-clause-unchecked
returns-then-not-has_size-clause-unchecked c = unchecked_next _ _ (λ both. let never = c.if-not-has_size.ensures.1 both.0 in cc)

pub returns-then-not-has_check-clause-unchecked : goal.returns-then-not-has_check-clause-unchecked
returns-then-not-has_check-clause-unchecked c =
    let rest : List ℕ = c.args.rest.now in
    let digest : List ℕ = c.args.digest.now in
    let n = body_size rest in
    let body = c.split_at-2.ensures.front ∙ ap (λ (k : ℕ). take k c.split_at.result.1.now) c.read_u32.ensures
    ∙ ap (λ (t : List ℕ). take n t) c.split_at.ensures.back in
    let after = c.split_at-2.ensures.back ∙ ap (λ (k : ℕ). drop k c.split_at.result.1.now) c.read_u32.ensures
    ∙ ap (λ (t : List ℕ). drop n t) c.split_at.ensures.back in
    let following = c.next_digest-following.ensures ∙ ap (next_digest digest) body in
    unchecked_next digest rest (λ both. let never =
    c.if-not-has_check.ensures.1 (ap (λ (t : List ℕ). take 8 t) after ∙ both.1 ∙ sym (ap (λ (t : List ℕ). take 8 t) following)) in cc)

pub returns-clause-checked : goal.returns-clause-checked
returns-clause-checked c =
    let rest : List ℕ = c.args.rest.now in
    let digest : List ℕ = c.args.digest.now in
    let n = body_size rest in
    let body = c.split_at-2.ensures.front ∙ ap (λ (k : ℕ). take k c.split_at.result.1.now) c.read_u32.ensures
    ∙ ap (λ (t : List ℕ). take n t) c.split_at.ensures.back in
    let after = c.split_at-2.ensures.back ∙ ap (λ (k : ℕ). drop k c.split_at.result.1.now) c.read_u32.ensures
    ∙ ap (λ (t : List ℕ). drop n t) c.split_at.ensures.back in
    let following = c.next_digest-following.ensures ∙ ap (next_digest digest) body in
    record {
      is = body;
      size = c.if-not-has_size.ensures.0 refl;
      check = sym (ap (λ (t : List ℕ). take 8 t) after) ∙ c.if-not-has_check.ensures.0 refl ∙ ap (λ (t : List ℕ). take 8 t) following;
      moved = c.next_digest-following.ensures;
    }
