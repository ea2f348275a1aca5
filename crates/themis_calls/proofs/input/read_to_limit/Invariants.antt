use Rattle.std.proofs.Common.{◌≡◌, ◌+◌, ◌-◌, ◌≤◌, vec_len}
use Rattle.themis_calls.specs.Moved.{HasRead}
use Rattle.themis_calls.proofs.input.read_to_limit.Given as goal

abbrev pub invariant-loop-piece : goal.invariant-loop-piece
invariant-loop-piece g l = record {
  limit : vec_len l.input ≤ l.most + 1;
  read : HasRead (vec_len l.input) l.input.items (g.S.Source.left l.fn.source) (g.S.Source.left l.source);
  quiet : g.S.Source.faults l.source ≡ g.S.Source.faults l.fn.source;
}

abbrev pub decreases-loop-piece : goal.decreases-loop-piece
decreases-loop-piece g l = l.most + 1 - vec_len l.input
