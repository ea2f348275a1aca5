use Rattle.std.proofs.Common.{◌≡◌, ◌∙◌, ap, length, arith}
use Rattle.sha2.specs.Sha256.{sha256}
use Rattle.lm_ots.proofs.Laid.{marked, value_taken}
use Rattle.lm_ots.proofs.chains.step_on.Goals as goal

pub returns-clause-value : goal.returns-clause-value
returns-clause-value c =
    let long : length c.args.block.now ≡ 55 = omega arith in
    value_taken c.args.block.now c.args.place c.copy_from_slice.new.self long
    ∙ c.copy_from_slice.ensures.after ∙ c.digest-value.ensures ∙ ap sha256 c.as_slice.ensures ∙ ap sha256 (marked c.args.block.now c.args.place long)
