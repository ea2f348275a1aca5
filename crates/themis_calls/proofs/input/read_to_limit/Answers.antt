use Rattle.std.proofs.Common.{◌≡◌, ◌≤◌, ℕ, length, take, ◌∙◌, arith}
use Rattle.std.specs.Prelude.{vec_len}
use Rattle.std.proofs.lemmas.List.{length-take, length-take-le}
use Rattle.themis_calls.proofs.ManyReads.{read_on}
use Rattle.themis_calls.proofs.input.read_to_limit.Goals as goal

pub loop-piece-preserved : goal.loop-piece-preserved
loop-piece-preserved g c =
    let count : ℕ = c.in-Ok-read.count in
    let reads = c.in-Ok-read.ensures.ok in
    let few : count ≤ length c.read.new.into = omega (arith, reads.within, c.read.auto.into) in
    let moved : length (take count c.read.new.into) ≡ count = length-take-le count c.read.new.into few in
    let items = rw (c.unwrap.ensures, c.reserve.ensures.items) at c.extend_from_slice.ensures.items in
    let long = rw (c.unwrap.ensures, c.reserve.ensures.len, moved) at c.extend_from_slice.ensures.len in
    let read = read_on (vec_len c.loop-piece.input) count c.loop-piece.input.items _ c.read.new.into _ _ _ c.loop-piece.invariant.read reads in
    record {
      limit = omega (
        arith,
        long,
        reads.within,
        length-take c.min-want.result c.loop-piece.piece,
        c.min-want.ensures,
        c.len-in-loop-piece.ensures,
        c.loop-piece.invariant.limit,
      );
      read = rw (long, items) read;
      quiet = c.in-Ok-read.ensures.quiet ∙ c.loop-piece.invariant.quiet;
    }
