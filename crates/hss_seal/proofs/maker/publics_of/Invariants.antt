use Rattle.std.proofs.Common.{◌≡◌, map, take}
use Rattle.hss_seal.specs.Any.{any_public}
use Rattle.hss_seal.proofs.maker.publics_of.Given as goal

-- the public keys so far
abbrev pub invariant-loop-sealer : goal.invariant-loop-sealer
invariant-loop-sealer l = l.publics.items ≡ map any_public (take l.sealer-index l.sealers)
