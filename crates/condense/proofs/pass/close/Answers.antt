use Rattle.std.proofs.Common.{◌≡◌, ◌∙◌, ◌-◌, ℕ, length, take, arith, ap}
use Rattle.condense.proofs.Stacking.{all_closed, closed_stack, none_closed, one_closed, still_inside}
use Rattle.condense.proofs.pass.close.Goals as goal

pub loop-at-init : goal.loop-at-init
loop-at-init c = none_closed c.args.places.now c.args.path.now.items c.args.level c.args.number

pub top_vertex-requires : goal.top_vertex-requires
top_vertex-requires c =
    rw c.deref.ensures.value
    (still_inside c.args.places.now c.loop-at.places c.args.path.now.items c.loop-at.path.items c.args.level c.args.number c.requires c.loop-at.invariant)

pub loop-at-preserved : goal.loop-at-preserved
loop-at-preserved c =
    let some = rw c.deref.ensures.value at c.in-Some.ensures.some in
    let long : c.len.result ≡ length c.loop-at.path.items = omega (arith, c.len.ensures, c.loop-at.path.ok.0) in
    one_closed c.args.places.now c.loop-at.places c.args.path.now.items c.loop-at.path.items c.args.level c.args.number c.requires c.loop-at.invariant
    c.in-Some.at _ some.0 some.1 some.2 (c.truncate.ensures.items ∙ ap (λ (n : ℕ). take (n - 1) c.loop-at.path.items) long)

pub returns-clause-places : goal.returns-clause-places
returns-clause-places c =
    all_closed c.args.places.now c.loop-at.places c.args.path.now.items c.loop-at.path.items c.args.level c.args.number c.requires c.loop-at.invariant
    (rw c.deref.ensures.value at c.in_default.ensures.none)

pub returns-clause-stack : goal.returns-clause-stack
returns-clause-stack c =
    closed_stack c.args.places.now c.loop-at.places c.args.path.now.items c.loop-at.path.items c.args.level c.args.number c.requires c.loop-at.invariant
    (rw c.deref.ensures.value at c.in_default.ensures.none)
