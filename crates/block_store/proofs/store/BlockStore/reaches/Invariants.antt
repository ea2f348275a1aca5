use Rattle.std.proofs.Common.{◌≡◌, ◌-◌, length}
use Rattle.block_store.specs.Chains.{reaches}
use Rattle.block_store.proofs.store.BlockStore.reaches.Given as goal

abbrev pub invariant-loop-step : goal.invariant-loop-step
invariant-loop-step l = reaches (length l.self) l.self l.from l.to ≡ reaches (length l.self - l._step) l.self l.at l.to
