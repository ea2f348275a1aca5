use Rattle.std.proofs.Common.{length, ◌<◌, ◌∙◌, arith}
use Rattle.majority_graph.proofs.Ahead.{ahead_all, ahead_more}
use Rattle.majority_graph.proofs.ranks.weights.Goals as goal

pub loop-at-preserved : goal.loop-at-preserved
loop-at-preserved c =
    let ps = c.args.one.now.places in
    let qs = c.args.other.now.places in
    let at = c.loop-at.at in
    let left : at < length ps.items = omega (arith, c.min-count.ensures, c.len.ensures, c.len-2.ensures, ps.ok.0, qs.ok.0) in
    let right : at < length qs.items = omega (arith, c.min-count.ensures, c.len.ensures, c.len-2.ensures, ps.ok.0, qs.ok.0) in
    let forward = ahead_more ps.items qs.items at c.loop-at.forward c.from-forward.result _ _ left right c.index.ensures
    c.index-in-loop-at.ensures c.from-forward.ensures
    c.loop-at.invariant.forward c.loop-at.invariant.few_forward in
    let backward = ahead_more qs.items ps.items at c.loop-at.backward c.from-backward.result _ _ right left c.index-in-loop-at.ensures
    c.index.ensures c.from-backward.ensures
    c.loop-at.invariant.backward c.loop-at.invariant.few_backward in
    record { forward = forward.0; backward = backward.0; few_forward = forward.1; few_backward = backward.1 }

pub returns-clause-forward : goal.returns-clause-forward
returns-clause-forward c =
    let ps = c.args.one.now.places in
    let qs = c.args.other.now.places in
    c.loop-at.invariant.forward
    ∙ ahead_all ps.items qs.items c.loop-at.at (omega (arith, c.min-count.ensures, c.len.ensures, c.len-2.ensures, ps.ok.0, qs.ok.0))

pub returns-clause-backward : goal.returns-clause-backward
returns-clause-backward c =
    let ps = c.args.one.now.places in
    let qs = c.args.other.now.places in
    c.loop-at.invariant.backward
    ∙ ahead_all qs.items ps.items c.loop-at.at (omega (arith, c.min-count.ensures, c.len.ensures, c.len-2.ensures, ps.ok.0, qs.ok.0))
