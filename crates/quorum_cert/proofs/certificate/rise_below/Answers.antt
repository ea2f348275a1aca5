use Rattle.std.proofs.Common.{◌≡◌, Some, refl, sym, ◌∙◌, slice_get}
use Rattle.quorum_cert.proofs.Dropped.{drop_found}
use Rattle.quorum_cert.proofs.certificate.rise_below.Goals as goal

pub returns-then-not-is_within : goal.returns-then-not-is_within
returns-then-not-is_within c =
    let votes = c.args.cert.now.votes in
    let found : slice_get votes c.loop-k.k ≡ Some (record { replica = c.in-Some.replica; seal = c.in-Some.field-0-1.now }) =
    sym (rw c.in-Some.is at c.vote.ensures) in
    sym (c.loop-k.invariant ∙ rw (drop_found votes c.loop-k.k _ found, ← c.if-not-is_within.ensures) refl)

pub loop-k-preserved : goal.loop-k-preserved
loop-k-preserved c =
    let votes = c.args.cert.now.votes in
    let found : slice_get votes c.loop-k.k ≡ Some (record { replica = c.in-Some.replica; seal = c.in-Some.field-0-1.now }) =
    sym (rw c.in-Some.is at c.vote.ensures) in
    c.loop-k.invariant ∙ rw (drop_found votes c.loop-k.k _ found, ← c.if-not-is_within.ensures) refl
