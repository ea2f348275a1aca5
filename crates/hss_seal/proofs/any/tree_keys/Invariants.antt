use Rattle.std.proofs.Common.{◌≡◌, drop, map, take}
use Rattle.hss_seal.proofs.any.tree_keys.Given as goal

-- the keys so far
abbrev pub invariant-loop-public : goal.invariant-loop-public
invariant-loop-public l = l.keys.items ≡ map (drop 4) (take l.public-index l.publics)
