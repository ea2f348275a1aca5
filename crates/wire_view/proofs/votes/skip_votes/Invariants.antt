use Rattle.std.proofs.Common.{◌≡◌, ◌-◌}
use Rattle.wire_view.specs.Reading.{rest_of, votes_at}
use Rattle.wire_view.proofs.votes.skip_votes.Given as goal

abbrev pub invariant-loop : goal.invariant-loop
invariant-loop l = rest_of (votes_at (l.count - l.counter) l.least l.rest) ≡ rest_of (votes_at l.count 0 l.bytes)
