use Rattle.std.proofs.Common.{◌≡◌, take}
use Rattle.wire_view.proofs.votes.VotesView.own.Given as goal

abbrev pub invariant-loop-k : goal.invariant-loop-k
invariant-loop-k l = l.votes.items ≡ take l.k l.self
