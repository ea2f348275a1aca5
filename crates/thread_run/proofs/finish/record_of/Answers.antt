use Rattle.std.proofs.Common.{◌∙◌, List, All, ap, map, subst, sym}
use Rattle.locked_log.specs.History.{Known}
use Rattle.seq_base.specs.declared.tx.Tx.{Tx}
use Rattle.client_logs.specs.declared.client.Client.{Client as ClientWorker}
use Rattle.replica_seat.specs.Seats.{Seated, meaning, replica_of}
use Rattle.replica_seat.specs.Showing.{batches_of, head_of}
use Rattle.thread_run.specs.declared.driver.Driver.{Driver}
use Rattle.thread_run.specs.Finishing.{AreFinished, CanFinish, HadMemory, rows_of}
use Rattle.thread_run.proofs.StoppedRecord.{can}
use Rattle.thread_run.proofs.Rooms.{has_room}
use Rattle.thread_run.proofs.Shown.{shown, shows}
use Rattle.thread_run.proofs.finish.record_of.Goals as goal

pub finished-requires : goal.finished-requires
finished-requires g c =
    let run = c.args.run in
    subst (λ (os : List (Known Tx)). CanFinish run.world.logs.items run.drivers.items os (rows_of run.clients.items))
    (sym c.in_ok-seats.ensures.own) (can c.args.plan.now run c.requires.stopped)

pub returns-clause-shows : goal.returns-clause-shows
returns-clause-shows g c =
    let m = meaning g.S.Sealer.replica g.S.Sealer.gives in
    let drivers = c.args.run.drivers.items in
    shows c.args.plan.now c.args.run c.requires.stopped m c.in_ok-seats.field-0.seats.items c.in_ok-seats.ensures.seats _ _ _ _
    (record { merge = c.shared_logs_are_merges.ensures.merge; room = c.shared_logs_are_merges.ensures.room; places = c.shared_logs_are_merges.ensures.places })
    (has_room c.args.plan.now c.requires.rules)
    (subst (All (λ (d : Driver). HadMemory d.fault)) c.as_slice.ensures.value c.in_ok-drivers_had_memory.ensures)
    (subst (All (λ (x : ClientWorker). HadMemory x.fault)) c.as_slice-2.ensures.value c.in_ok-clients_had_memory.ensures)
    c.in_ok-arrivals.ensures.count
    (subst (λ (os : List (Known Tx)). AreFinished drivers os (rows_of c.args.run.clients.items) c.in_ok-arrivals.arrivals)
    c.in_ok-seats.ensures.own c.in_ok-arrivals.ensures.lists)
    c.in_ok-journals.ensures.shown
    (c.in_ok-heads.ensures ∙ ap (map (λ (s : Seated g.row.S.Denot). head_of (replica_of m s))) c.as_slice-3.ensures.value)
    (c.in_ok-batches.ensures ∙ ap (map (λ (s : Seated g.row.S.Denot). batches_of (replica_of m s))) c.as_slice-4.ensures.value)

pub returns-clause-shown : goal.returns-clause-shown
returns-clause-shown g c = λ fits gives capacity stand. (
    let m = meaning g.S.Sealer.replica g.S.Sealer.gives in
    shown c.args.plan.now c.args.run c.requires.stopped m c.in_ok-seats.field-0.seats.items c.in_ok-seats.ensures.seats fits gives capacity _ stand
    (c.in_ok-heads.ensures ∙ ap (map (λ (s : Seated g.row.S.Denot). head_of (replica_of m s))) c.as_slice-3.ensures.value)
    (c.in_ok-batches.ensures ∙ ap (map (λ (s : Seated g.row.S.Denot). batches_of (replica_of m s))) c.as_slice-4.ensures.value))
