use Rattle.std.proofs.Common.{◌-◌}
use Rattle.lm_ots.specs.Chain.{head, steps, IsBlock}
use Rattle.lm_ots.proofs.chains.chain.Given as goal

-- the block holds the start value after the steps so far
abbrev pub invariant-loop-place : goal.invariant-loop-place
invariant-loop-place l = IsBlock (head l.id l.leaf l.index) (steps l.id l.leaf l.index l.from (l.place - l.from) l.start) l.block
