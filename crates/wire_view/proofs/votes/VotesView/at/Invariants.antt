use Rattle.std.proofs.Common.{◌≡◌, ◌-◌, Ok, [], length, drop}
use Rattle.wire_view.specs.Reading.{votes_at}
use Rattle.wire_view.proofs.votes.VotesView.at.Given as goal

abbrev pub invariant-loop : goal.invariant-loop
invariant-loop l = votes_at (length l.self - l.counter) l.least l.rest ≡ Ok (drop l.counter l.self, [])
