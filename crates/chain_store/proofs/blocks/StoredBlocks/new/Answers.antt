use Rattle.std.proofs.Common.{[], arith}
use Rattle.std.proofs.lemmas.List.Elements.{All-nil}
use Rattle.chain_store.specs.Chains.{IsOf}
use Rattle.chain_store.proofs.ChainStates.{led_at_first}
use Rattle.chain_store.proofs.blocks.StoredBlocks.new.Goals as goal

pub invariant_of-result : goal.invariant_of-result
invariant_of-result c = rw (c.new.ensures, c.new-2.ensures.items) (led_at_first, All-nil (IsOf (record { setting = c.args.setting; blocks = [] })), omega arith)
