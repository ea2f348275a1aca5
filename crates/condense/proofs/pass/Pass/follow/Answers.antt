use Rattle.std.proofs.Common.{◌≡◌, ◌+◌, ◌-◌, refl, arith}
use Rattle.condense.proofs.Stacking.{followed_stack}
use Rattle.condense.proofs.pass.Pass.follow.Goals as goal

pub returns-clause-stack : goal.returns-clause-stack
returns-clause-stack c =
    let old = c.args.self.now in
    let top : old.depth ≡ old.depth - 1 + 1 = omega (arith, c.requires.fits.1) in
    followed_stack old.places.items _ old.depth c.args.at (old.depth - 1) old.path.items c.requires.fits.0
    (c.requires.at_top (old.depth - 1) top) refl c.requires.stack
