use Rattle.std.proofs.Common.{◌≡◌, [], take}
use Rattle.std.specs.List.{fold}
use Rattle.chain_state.specs.Standings.{standing_for}
use Rattle.chain_store.specs.Chains.{block_on}
use Rattle.chain_store.proofs.blocks.chain_anew.Given as goal

abbrev pub invariant-loop-digest : goal.invariant-loop-digest
invariant-loop-digest l = l.chain ≡ fold (block_on l.store) (standing_for l.fn.setting []) (take l.digest-index l.digest-items)
