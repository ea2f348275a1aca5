use Rattle.std.proofs.Common.{◌≡◌, ◌++◌, length, map, Ok}
use Rattle.std.specs.Vec.Iter.{into_iter_items, into_iter_len}
use Rattle.hss_seal.proofs.maker.all_grown.Given as goal

abbrev pub invariant-loop-key : goal.invariant-loop-key
invariant-loop-key g l = record {
  so_far : map Ok l.keys.items ++ into_iter_items l.key-iterator ≡ l.fn.grown.items;
  left : into_iter_len l.key-iterator ≡ length (into_iter_items l.key-iterator);
}
