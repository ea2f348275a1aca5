use Rattle.std.proofs.Common.{take}
use Rattle.std.specs.List.{concat}
use Rattle.sha2.specs.Hashers.{Holds256}
use Rattle.seal_kit.proofs.digest.keys_digest.Given as goal

-- the keys so far are taken in
abbrev pub invariant-loop-key : goal.invariant-loop-key
invariant-loop-key l = Holds256 l.hasher (concat (take l.key-index l.keys))
