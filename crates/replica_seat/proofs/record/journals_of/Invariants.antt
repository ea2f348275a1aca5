use Rattle.std.proofs.Common.{◌≡◌, ◌++◌, length, map, All}
use Rattle.std.specs.Vec.Iter.{into_iter_items, into_iter_len}
use Rattle.replica_seat.specs.Seats.{AreReadable, meaning, replica_of}
use Rattle.replica_seat.specs.Showing.{journal_of}
use Rattle.replica_seat.proofs.record.journals_of.Given as goal

abbrev pub invariant-loop-seat : goal.invariant-loop-seat
invariant-loop-seat g l =
    let m = meaning g.S.Sealer.replica g.S.Sealer.gives in
    record {
      so_far : l.journals.items ++ map (λ seat. journal_of (replica_of m seat)) (into_iter_items l.seat-iterator)
          ≡ map (λ seat. journal_of (replica_of m seat)) l.fn.seats.items;
      readable : All (λ journal. AreReadable journal.entries) l.journals.items;
      left : into_iter_len l.seat-iterator ≡ length (into_iter_items l.seat-iterator);
    }
