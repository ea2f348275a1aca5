use Rattle.std.proofs.Common.{◌≡◌, map, take}
use Rattle.chain_state.specs.Shown.{shown}
use Rattle.chain_state.proofs.state.shared.Given as goal

abbrev pub invariant-loop-standing : goal.invariant-loop-standing
invariant-loop-standing l = map shown l.copies.items ≡ map shown (take l.standing-index l.proposals)
