use Rattle.std.proofs.Common.{◌≡◌, Some, refl, sym, ◌∙◌, slice_get}
use Rattle.quorum_cert.proofs.Dropped.{drop_found}
use Rattle.quorum_cert.proofs.certificate.seals_fit.Goals as goal

pub returns-then-not-seal_fits : goal.returns-then-not-seal_fits
returns-then-not-seal_fits g c =
    let votes = c.args.cert.now.votes in
    let found : slice_get votes c.loop-k.k ≡ Some (record { replica = c.in-Some.replica; seal = c.in-Some.seal.now }) =
    sym (rw c.in-Some.is at c.vote.ensures) in
    sym (c.loop-k.invariant ∙ rw (drop_found votes c.loop-k.k _ found, ← c.if-not-seal_fits.ensures) refl)

pub loop-k-preserved : goal.loop-k-preserved
loop-k-preserved g c =
    let votes = c.args.cert.now.votes in
    let found : slice_get votes c.loop-k.k ≡ Some (record { replica = c.in-Some.replica; seal = c.in-Some.seal.now }) =
    sym (rw c.in-Some.is at c.vote.ensures) in
    c.loop-k.invariant ∙ rw (drop_found votes c.loop-k.k _ found, ← c.if-not-seal_fits.ensures) refl
