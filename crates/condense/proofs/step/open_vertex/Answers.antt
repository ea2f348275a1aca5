use Rattle.std.proofs.Common.{◌+◌, ◌-◌, arith}
use Rattle.condense.proofs.Stacking.{entry_inside, none_open}
use Rattle.condense.proofs.step.open_vertex.Goals as goal

pub bounds-places-at : goal.bounds-places-at
bounds-places-at c = entry_inside c.args.places.now (c.args.top + 1) c.args.path.now c.requires (c.loop-left.left - 1)
    (omega (arith, c.loop-left.invariant.short))

pub returns-then-not-is_at-clause-none : goal.returns-then-not-is_at-clause-none
returns-then-not-is_at-clause-none c =
    none_open c.args.places.now c.args.top c.args.path.now c.loop-left.left c.requires c.loop-left.invariant.short c.loop-left.invariant.none
    (λ some at. absurd (cc (c.if-not-is_at.true, c.is_at.ensures.1 at)))

pub returns-clause-none : goal.returns-clause-none
returns-clause-none c =
    none_open c.args.places.now c.args.top c.args.path.now c.loop-left.left c.requires c.loop-left.invariant.short c.loop-left.invariant.none
    (λ some. absurd (omega (arith, some)))
