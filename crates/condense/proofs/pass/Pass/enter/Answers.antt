use Rattle.std.proofs.Common.{refl}
use Rattle.condense.proofs.Stacking.{entered_stack}
use Rattle.condense.proofs.pass.Pass.enter.Goals as goal

pub returns-clause-stack : goal.returns-clause-stack
returns-clause-stack c =
    let old = c.args.self.now in
    rw c.in_ok-push.ensures.items
    (entered_stack old.places.items _ old.depth c.args.at old.path.items c.requires.fits.0 c.requires.unseen refl c.requires.stack)
