use Rattle.std.proofs.Common.{◌≡◌, take}
use Rattle.node_core.proofs.state.certs.copies_of.Given as goal

abbrev pub invariant-loop-vote : goal.invariant-loop-vote
invariant-loop-vote l = l.copies.items ≡ take l.vote-index l.votes
