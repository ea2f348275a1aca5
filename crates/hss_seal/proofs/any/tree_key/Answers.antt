use Rattle.std.proofs.Common.{◌∙◌, drop, arith}
use Rattle.std.proofs.lemmas.List.{take_all, length-drop}
use Rattle.hss_seal.proofs.any.tree_key.Goals as goal

pub returns : goal.returns
returns c =
    let public = c.args.public.now in
    c.copy_from_slice.ensures.after ∙ take_all 56 (drop 4 public) (omega (arith, length-drop 4 public))
