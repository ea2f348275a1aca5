use Rattle.std.proofs.Common.{◌≡◌}
use Rattle.lms_seal.proofs.growing.GrowingKey.add_leaves.Given as goal

-- the leaves so far are there
abbrev pub invariant-loop-leaf : goal.invariant-loop-leaf
invariant-loop-leaf l = (l.self.key ≡ l.initial.self.key) × (l.self.leaves ≡ l.leaf)
