use Rattle.std.proofs.Common.{◌≡◌}
use Rattle.hss_seal.specs.Kits.{drawn_sealers}
use Rattle.hss_seal.proofs.maker.new_kit.Given as goal

-- the sealers so far
abbrev pub invariant-replicas : goal.invariant-replicas
invariant-replicas l = l.sealers.items ≡ drawn_sealers l.seed l.height l.replica
