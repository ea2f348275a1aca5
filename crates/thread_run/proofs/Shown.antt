-- What a record shows of workers that stand at their places.
use Rattle.std.proofs.Common.{◌≡◌, ℕ, ◌<◌, List, [], length, map, refl, ap, sym, ◌∙◌}
use Rattle.std.specs.Prelude.{All, Some, slice_get}
use Rattle.std.specs.Option.{option_map, option_map_or}
use Rattle.std.proofs.lemmas.List.{length-map}
use Rattle.std.proofs.lemmas.Option.{slice_get-map}
use Rattle.seq_base.specs.declared.tx.Tx.{Tx}
use Rattle.plan_text.specs.declared.plan.Plan.{Plan}
use Rattle.node_core.specs.Rows.{Check}
use Rattle.node_core.specs.Reported.{Gives}
use Rattle.node_core.specs.declared.entry.Entry.{Entry}
use Rattle.run_record.specs.declared.record.Head.{Head}
use Rattle.run_record.specs.declared.record.Journal.{Journal}
use Rattle.run_record.specs.declared.record.RunRecord.{RunRecord}
use Rattle.replica_seat.specs.Seats.{Meaning, Replica as Shape, Seated, replica_of}
use Rattle.replica_seat.specs.Showing.{batches_of, head_of, journal_of as shown_journal}
use Rattle.round_rules.specs.Acts.{after_events}
use Rattle.round_rules.specs.Journals.{events_of}
use Rattle.round_rules.specs.Ran.{AreShown}
use Rattle.thread_run.specs.declared.runs.Run.{Run}
use Rattle.thread_run.specs.Finishing.{AreFinished, HadMemory, HasRoom, MergeLaws, rows_of}
use Rattle.thread_run.specs.Going.{HasStopped, Shows}
use Rattle.thread_run.specs.Standing.{AllStand, Stands, journal_of, journals_at}
use Rattle.thread_run.specs.Workers.{Working}
use Rattle.thread_run.proofs.StoppedRecord.{listed_at, merged, owned, taken, reported}
use Rattle.thread_run.proofs.WorkerInvariant.{replica_is}

module _ {S : Type 0} (plan : Plan) (run : Run S) (stopped : HasStopped plan run) (m : Meaning S)
    (seats : List (Seated S)) (are : seats ≡ map (λ w. w.seat) run.workers.items) where
  -- what is shown of each seat is shown of each replica's worker
  shown_at : {X : Type 0} (f : Seated S → X) (at : ℕ) (w : Working S) → at < plan.setting.n → slice_get run.workers.items at ≡ Some w
      → slice_get (map f seats) at ≡ Some (f w.seat)
  shown_at f at w lt is =
      ap (λ (l : List (Seated S)). slice_get (map f l) at) are
      ∙ slice_get-map f (map (λ (v : Working S). v.seat) run.workers.items) at
      ∙ ap (option_map f) (slice_get-map (λ (v : Working S). v.seat) run.workers.items at ∙ ap (option_map (λ (v : Working S). v.seat)) is)

  shown_count : {X : Type 0} (f : Seated S → X) → length (map f seats) ≡ plan.setting.n
  shown_count f =
      length-map seats f ∙ ap length are ∙ length-map run.workers.items (λ (v : Working S). v.seat) ∙ stopped.manned.workers

  the_journal : (at : ℕ) → at < plan.setting.n
      → option_map_or (λ (j : Journal). j.entries) (slice_get (map (λ seat. shown_journal (replica_of m seat)) seats) at) []
      ≡ journals_at run.workers.items at
  the_journal at lt =
      let (w, is, fresh, kept) = stopped.manned.replicas at lt in
      ap (λ (o : _). option_map_or (λ (j : Journal). j.entries) o []) (shown_at (λ seat. shown_journal (replica_of m seat)) at w lt is)
      ∙ ap (λ (o : _). option_map_or journal_of o []) (sym is)

  pub shows : (lists : List (List Tx)) (journals : List Journal) (heads : List Head) (batches : List (List (List Tx)))
      → (laws : MergeLaws) (room : (at : ℕ) → at < plan.setting.n → HasRoom plan at) (had : All (λ d. HadMemory d.fault) run.drivers.items)
      (clients_had : All (λ c. HadMemory c.fault) run.clients.items)
      (count : length lists ≡ length run.world.logs.items)
      → AreFinished run.drivers.items (map (λ (w : Working S). w.log) run.workers.items) (rows_of run.clients.items) lists
      → journals ≡ map (λ seat. shown_journal (replica_of m seat)) seats → heads ≡ map (λ seat. head_of (replica_of m seat)) seats
      → batches ≡ map (λ seat. batches_of (replica_of m seat)) seats
      → Shows plan run
      (record {
        setting = plan.setting;
        faulty = plan.faulty;
        arrivals = lists;
        journals = journals;
        heads = heads;
        batches = batches;
        turns = run.turns;
        ticks = run.ticks;
      })
  shows lists journals heads batches laws room had clients_had count finished j h b = record {
    taken = taken plan run stopped laws room had clients_had lists count finished;
    shape = record {
      setting = refl;
      faulty = refl;
      arrivals = count ∙ stopped.manned.logs;
      journals = ap length j ∙ shown_count (λ seat. shown_journal (replica_of m seat));
      heads = ap length h ∙ shown_count (λ seat. head_of (replica_of m seat));
      batches = ap length b ∙ shown_count (λ seat. batches_of (replica_of m seat));
    };
    arrivals = merged plan run stopped laws room had clients_had lists count finished;
    lists = listed_at plan run stopped laws room had clients_had lists count finished;
    reported = reported plan run stopped laws room had clients_had lists count finished;
    owned = owned plan run stopped laws room had clients_had lists count finished;
    journals = λ at lt. ap (λ (l : List Journal). option_map_or (λ (x : Journal). x.entries) (slice_get l at) []) j ∙ the_journal at lt;
    turns = refl;
    ticks = refl;
  }

  -- heads and batches are those of the nodes after the journals
  pub shown : (fits : Check) (gives : ℕ → Gives) (capacity : ℕ) (run' : RunRecord) → AllStand fits plan m gives capacity run.workers.items
      → run'.heads ≡ map (λ seat. head_of (replica_of m seat)) seats → run'.batches ≡ map (λ seat. batches_of (replica_of m seat)) seats
      → AreShown fits plan gives capacity run' (journals_at run.workers.items)
  shown fits gives capacity run' stand h b = record {
    heads = λ at lt. (let (w, is, s) = stand at lt in ap (λ (l : List Head). slice_get l at) h
        ∙ shown_at (λ seat. head_of (replica_of m seat)) at w lt is ∙ ap (λ (r : Shape). Some (head_of r)) (node_is at w is s));
    batches = λ at lt. (let (w, is, s) = stand at lt in ap (λ (l : List (List (List Tx))). slice_get l at) b
        ∙ shown_at (λ seat. batches_of (replica_of m seat)) at w lt is ∙ ap (λ (r : Shape). Some (batches_of r)) (node_is at w is s));
  }
    where
      node_is : (at : ℕ) (w : Working S) → slice_get run.workers.items at ≡ Some w → Stands fits plan m (gives at) capacity at w
          → replica_of m w.seat ≡ (after_events fits plan (gives at) capacity at (events_of (journals_at run.workers.items at))).replica
      node_is at w is s =
          let journal : w.seat.journal ≡ journals_at run.workers.items at = ap (λ (o : _). option_map_or journal_of o []) (sym is) in
          replica_is fits plan m (gives at) capacity at w s
          ∙ ap (λ (j : List Entry). (after_events fits plan (gives at) capacity at (events_of j)).replica) journal
