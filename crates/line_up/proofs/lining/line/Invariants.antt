use Rattle.std.proofs.Common.{◌≡◌, take}
use Rattle.line_up.specs.Line.{line_of}
use Rattle.line_up.specs.Paths.{has_edge}
use Rattle.line_up.proofs.lining.line.Given as goal

abbrev pub invariant-loop-member : goal.invariant-loop-member
invariant-loop-member l = l.line.items ≡ line_of (has_edge l.proposal) (take l.member-index l.members)
