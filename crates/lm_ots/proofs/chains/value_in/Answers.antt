use Rattle.std.proofs.Common.{◌∙◌, arith, drop, length-drop}
use Rattle.std.proofs.lemmas.List.{take_all}
use Rattle.lm_ots.proofs.chains.value_in.Goals as goal

pub returns : goal.returns
returns c =
    c.copy_from_slice.ensures.after ∙ take_all 32 (drop 23 c.args.block.now) (omega (arith, length-drop 23 c.args.block.now))
