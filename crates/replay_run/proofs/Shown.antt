-- The start of a run and its record, by what its seats show.
use Rattle.std.proofs.Common.{◌≡◌, List, [], map, refl, ap, sym, ◌∙◌}
use Rattle.std.proofs.lemmas.Simd.{map-map}
use Rattle.plan_text.specs.declared.plan.Plan.{Plan}
use Rattle.seq_base.specs.declared.tx.Tx.{Tx}
use Rattle.fault_script.specs.Sealing.{Signer}
use Rattle.run_record.specs.Done.{due_of}
use Rattle.run_record.specs.declared.record.Head.{Head}
use Rattle.run_record.specs.declared.record.Journal.{Journal}
use Rattle.run_record.specs.declared.record.RunRecord.{RunRecord}
use Rattle.replica_seat.specs.Feed.{feed_of}
use Rattle.replica_seat.specs.Seats.{Meaning, Replica, Seated, replica_of}
use Rattle.replay_run.specs.World.{Net, world_of}
use Rattle.replica_seat.specs.Opening.{fresh_replica}
use Rattle.replica_seat.specs.Showing.{batches_of, head_of, journal_of}
use Rattle.replay_run.specs.Play.{record_of, start_of}

pub record_shown : {S : Type 0} (m : Meaning S) (plan : Plan) (net : Net S) → record_of plan (world_of m net) ≡ record {
  setting = plan.setting;
  faulty = plan.faulty;
  arrivals = map (λ seat. seat.feed.txs) net.seats;
  journals = map (λ seat. journal_of (replica_of m seat)) net.seats;
  heads = map (λ seat. head_of (replica_of m seat)) net.seats;
  batches = map (λ seat. batches_of (replica_of m seat)) net.seats;
  turns = net.turns;
  ticks = net.ticks;
}
unfolding record_of
record_shown m plan net = simp map-map

-- the same by its parts, each read from the seats
pub record_made : {S : Type 0} (m : Meaning S) (plan : Plan) (net value : Net S) (one two three : List (Seated S))
    (arrivals : List (List Tx)) (journals : List Journal) (heads : List Head) (batches : List (List (List Tx)))
    → net ≡ value → one ≡ net.seats → two ≡ net.seats → three ≡ net.seats
    → arrivals ≡ map (λ seat. seat.feed.txs) one → heads ≡ map (λ seat. head_of (replica_of m seat)) two
    → batches ≡ map (λ seat. batches_of (replica_of m seat)) three → journals ≡ map (λ seat. journal_of (replica_of m seat)) net.seats
    → ◌≡◌ {A = RunRecord} (record {
      setting = plan.setting;
      faulty = plan.faulty;
      arrivals = arrivals;
      journals = journals;
      heads = heads;
      batches = batches;
      turns = net.turns;
      ticks = net.ticks;
    }) (record_of plan (world_of m value))
record_made m plan net value one two three arrivals journals heads batches same first second third is_arrivals is_heads is_batches is_journals =
    rw (← same, record_shown m plan net, is_arrivals, is_heads, is_batches, is_journals, first, second, third) refl

-- nothing is on its way, and there is a seat for each sealer
pub started : {S : Type 0} (m : Meaning S) (plan : Plan) (net : Net S) (one : List (Seated S)) (sealers : List Signer)
    → one ≡ net.seats
    → map (replica_of m) net.seats ≡ map (fresh_replica plan) sealers
    → net.due ≡ due_of plan.setting.n plan.faulty (map (λ seat. seat.feed.txs) one)
    → net.queue ≡ [] → net.turns ≡ 0 → net.ticks ≡ 0
    → world_of m net ≡ start_of plan sealers
unfolding start_of
started {S} m plan net one sealers same replicas due_is queue_is turns_is ticks_is =
    let feeds : map (λ (seat : Seated S). seat.feed.txs) net.seats ≡ map (λ (s : Signer). (feed_of plan s.replica).txs) sealers =
    sym (map-map (λ (r : Replica). r.feed.txs) (replica_of m) net.seats)
    ∙ ap (map (λ (r : Replica). r.feed.txs)) replicas
    ∙ map-map (λ (r : Replica). r.feed.txs) (fresh_replica plan) sealers in
    let due : net.due ≡ due_of plan.setting.n plan.faulty (map (λ (s : Signer). (feed_of plan s.replica).txs) sealers) =
    due_is ∙ ap (due_of plan.setting.n plan.faulty) (ap (map (λ (seat : Seated S). seat.feed.txs)) same ∙ feeds) in
    rw (replicas, due, queue_is, turns_is, ticks_is) refl
