use Rattle.std.proofs.Common.{◌≡◌, ◌+◌, ◌<◌, length}
use Rattle.fair_update.specs.Merging.{IsMergedUpTo}
use Rattle.fair_update.proofs.updating.merge.Given as goal

abbrev pub invariant-loop-u : goal.invariant-loop-u
invariant-loop-u l = record {
  count : l.count ≡ length l.fn.proposal.vertices;
  merged : IsMergedUpTo l.fn.proposal l.given l.ranks l.proposal l.u (l.u + 1);
}

abbrev pub invariant-loop-v : goal.invariant-loop-v
invariant-loop-v l = record {
  count : l.count ≡ length l.fn.proposal.vertices;
  row : l.u < l.count;
  merged : IsMergedUpTo l.fn.proposal l.given l.ranks l.proposal l.u l.v;
}
