use Rattle.std.proofs.Common.{◌≡◌, map, take}
use Rattle.walks.specs.Marks.{is_followed}
use Rattle.fair_propose.proofs.search.done_among.Given as goal

abbrev pub invariant-loop-mark : goal.invariant-loop-mark
invariant-loop-mark l = l.done.items ≡ map is_followed (take l.mark-index l.marks)
