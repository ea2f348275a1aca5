use Rattle.std.proofs.Common.{◌≡◌, ◌-◌, ◌++◌, length}
use mathlib.Core.List.{reverse}
use Rattle.block_store.specs.Chains.{chain_of, following}
use Rattle.block_store.proofs.store.BlockStore.back_from.Given as goal

abbrev pub invariant-loop-step : goal.invariant-loop-step
invariant-loop-step l = chain_of l.self l.block ≡ following (length l.self - l._step) l.self l.at ++ reverse l.back.items
