use Rattle.std.proofs.Common.{◌∙◌, drop, arith}
use Rattle.std.proofs.lemmas.List.{take_all, length-drop}
use Rattle.themis_c.proofs.opening.seed_of.Goals as goal

pub returns : goal.returns
returns c =
    let secret = c.args.secret.now in
    c.copy_from_slice.ensures.after ∙ take_all 32 (drop 16 secret) (omega (arith, length-drop 16 secret))
