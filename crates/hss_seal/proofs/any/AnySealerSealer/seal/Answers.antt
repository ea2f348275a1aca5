use Rattle.std.proofs.Common.{◌∙◌, ap, sym}
use Rattle.hss_seal.specs.Any.{any_gives}
use Rattle.hss_seal.proofs.any.AnySealerSealer.seal.Goals as goal

pub returns-in-One-clause-same_gives : goal.returns-in-One-clause-same_gives
returns-in-One-clause-same_gives c = c.seal.ensures.same_gives ∙ sym (ap any_gives c.in-One.is)

pub returns-in-Two-clause-same_gives : goal.returns-in-Two-clause-same_gives
returns-in-Two-clause-same_gives c = c.seal-in-Two.ensures.same_gives ∙ sym (ap any_gives c.in-Two.is)
