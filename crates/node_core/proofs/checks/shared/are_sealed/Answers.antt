use Rattle.std.proofs.Common.{◌≡◌, Some, refl, sym, ◌∙◌, slice_get}
use Rattle.quorum_cert.proofs.Dropped.{drop_found}
use Rattle.node_core.proofs.checks.shared.are_sealed.Goals as goal

pub returns-then-not-is_sealed : goal.returns-then-not-is_sealed
returns-then-not-is_sealed g c =
    let orders = c.args.block.now.orders in
    let found : slice_get orders c.loop-k.k ≡ Some c.in-Some.order = sym (rw c.in-Some.is at c.order.ensures) in
    sym (c.loop-k.invariant ∙ rw (drop_found orders c.loop-k.k _ found, ← c.if-not-is_sealed.ensures) refl)

pub loop-k-preserved : goal.loop-k-preserved
loop-k-preserved g c =
    let orders = c.args.block.now.orders in
    let found : slice_get orders c.loop-k.k ≡ Some c.in-Some.order = sym (rw c.in-Some.is at c.order.ensures) in
    c.loop-k.invariant ∙ rw (drop_found orders c.loop-k.k _ found, ← c.if-not-is_sealed.ensures) refl
