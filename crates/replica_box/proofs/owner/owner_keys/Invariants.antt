use Rattle.std.proofs.Common.{◌++◌, take}
use Rattle.std.specs.Int.{w32, to_be_bytes}
use Rattle.std.specs.List.{concat}
use Rattle.sha2.specs.Hashers.{Holds256}
use Rattle.durable_node.specs.Header.{height_number}
use Rattle.replica_box.proofs.owner.owner_keys.Given as goal

-- the number and the keys so far are taken in
abbrev pub invariant-loop-public : goal.invariant-loop-public
invariant-loop-public l = Holds256 l.hasher (to_be_bytes w32 (height_number l.fn.height) ++ concat (take l.public-index l.publics))
