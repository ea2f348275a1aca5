use Rattle.std.proofs.Common.{rules, ◌∙◌, List, ap, subst, sym, All}
use Rattle.std.specs.Vec.Iter.{into_iter_items}
use Rattle.node_core.specs.declared.entry.Entry.{Entry}
use Rattle.run_record.specs.declared.record.Journal.{Journal}
use Rattle.replica_seat.specs.Seats.{AreReadable, Seated, meaning, replica_of}
use Rattle.replica_seat.specs.Showing.{journal_of}
use Rattle.replica_seat.proofs.TakeLoops.{readable_more, seat_taken}
use Rattle.replica_seat.proofs.record.journals_of.Goals as goal

pub loop-seat-preserved : goal.loop-seat-preserved
loop-seat-preserved g c = record {
  so_far = seat_taken (λ seat. journal_of (replica_of (meaning g.S.Sealer.replica g.S.Sealer.gives) seat)) c.loop-seat.journals.items c.push.new.self.items
      (record { entries = c.of.result }) (into_iter_items c.loop-seat.seat-iterator) (into_iter_items c.next.new.self) c.in-Some.seat _
      c.in_ok-push.ensures.items (ap (λ (l : List Entry). record { entries = l }) c.of.ensures
      ∙ ap (λ (s : Seated g.row.S.Denot). record { entries = s.journal }) c.seat.view_is)
      c.in-Some.ensures.steps.0 c.loop-seat.invariant.so_far;
  readable = readable_more c.loop-seat.journals.items c.push.new.self.items (record { entries = c.of.result }) c.seat.inside.journal.items
      c.in_ok-push.ensures.items c.of.ensures c.loop-seat.invariant.readable c.seat.invariant;
  left = search rules;
}

pub returns-clause-readable : goal.returns-clause-readable
returns-clause-readable g c = subst (λ (js : List Journal). All (λ (j : Journal). AreReadable j.entries) js) (sym c.of-2.ensures) c.loop-seat.invariant.readable
