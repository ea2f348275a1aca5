-- The start of a run is a state between two rounds.
use Rattle.std.proofs.Common.{◌≡◌, ℕ, ◌+◌, ◌<◌, List, [], ◌∷◌, length, map, refl, ap, sym, subst, ◌∙◌, arith}
use Rattle.std.specs.Prelude.{All, Option, Some, slice_get, sum_by}
use Rattle.std.specs.List.{AllZip, range_with_len}
use Rattle.std.specs.Option.{option_map, option_map_or}
use Rattle.std.proofs.lemmas.List.{length-map}
use Rattle.std.proofs.lemmas.List.FromFn.{length-range_with_len}
use Rattle.std.proofs.lemmas.List.Elements.{All-nil}
use Rattle.std.proofs.lemmas.Option.{same_Some, slice_get-map, slice_get_within}
use Rattle.seq_base.specs.declared.tx.Tx.{Tx}
use Rattle.locked_log.specs.History.{Known, Opened as Log, times}
use Rattle.mailbox.specs.Boxes.{Opened as Box, Sender as SendPass, Receiver, sender_in, receiver_in}
use Rattle.client_logs.specs.Clients.{OfClient}
use Rattle.fault_script.specs.Sealing.{Signer, signer}
use Rattle.plan_text.specs.declared.plan.Plan.{Plan}
use Rattle.run_record.specs.Done.{due_of}
use Rattle.node_core.specs.Rows.{Check}
use Rattle.node_core.specs.Reported.{Gives}
use Rattle.node_core.specs.declared.entry.Entry.{Entry}
use Rattle.replica_seat.specs.Feed.{arrivals_for, feed_of, timed_for, txs_of}
use Rattle.replica_seat.specs.Opening.{fresh_replica}
use Rattle.replica_seat.specs.Seats.{Meaning, Replica as Shape, Seated, replica_of}
use Rattle.round_rules.specs.Journals.{events_of, ticks_in}
use Rattle.round_rules.specs.Moments.{everyone}
use Rattle.round_rules.proofs.Places.{all_at, found_at, range_at}
use Rattle.thread_run.specs.declared.driver.Driver.{Driver}
use Rattle.thread_run.specs.declared.runs.Run.{Run}
use Rattle.thread_run.specs.Finishing.{column}
use Rattle.thread_run.specs.Going.{HasGiven, IsClientOf, IsGoing, IsManned}
use Rattle.thread_run.specs.Signers.{fresh_signers}
use Rattle.thread_run.specs.Standing.{IsNew, journal_of, journals_at}
use Rattle.thread_run.specs.Starting.{IsDealt, IsNewClient, drivers_from, pass_with, worker_with, workers_from}
use Rattle.thread_run.specs.Steps.{Begins, IsCounted, turns_by}
use Rattle.thread_run.specs.Exchange.{IsDriverOf}
use Rattle.thread_run.specs.Workers.{Did, IsOf, Ready, Working}
use Rattle.thread_run.proofs.WorkDone.{did_nothing}
use Rattle.thread_run.proofs.InitialLists.{column_at, drivers_of_logs, fresh_at, given_at, no_deliveries, no_turns, parts_of_logs, seated, senders_of, workers_at, workers_count}
use Rattle.thread_run.proofs.Zips.{all_places, zip_back, zip_map}

-- a seat for each replica
pub seats_count : {S A : Type 0} (plan : Plan) (m : Meaning S) (shape : A → Signer) (sealers : List A) (seats : List (Seated S))
    → map (λ s. (shape s).replica) sealers ≡ everyone plan
    → map (replica_of m) seats ≡ map (λ s. fresh_replica plan (shape s)) sealers → length seats ≡ plan.setting.n
seats_count plan m shape sealers seats places are =
    sym (length-map seats (replica_of m)) ∙ ap length are ∙ length-map sealers (λ s. fresh_replica plan (shape s))
    ∙ sym (length-map sealers (λ s. (shape s).replica)) ∙ ap length places ∙ length-range_with_len 0 plan.setting.n

-- ---- the whole

module _ {S A : Type 0} (plan : Plan) (run : Run S) (m : Meaning S) (shape : A → Signer) (sealers : List A) (seats : List (Seated S))
    (takes : List Receiver) (rows : List (List SendPass))
    (some : 0 < plan.setting.n)
    (places : map (λ s. (shape s).replica) sealers ≡ everyone plan)
    (seats_are : map (replica_of m) seats ≡ map (λ s. fresh_replica plan (shape s)) sealers)
    (logs_count : length run.world.logs.items ≡ plan.setting.n)
    (logs_parts : All (λ l. l.parts ≡ length plan.clients + 3) run.world.logs.items)
    (boxes_count : length run.world.boxes.items ≡ plan.setting.n)
    (boxes_senders : All (λ b. b.senders ≡ plan.setting.n) run.world.boxes.items)
    (takes_are : takes ≡ map (λ b. receiver_in b []) run.world.boxes.items)
    (dealt : AllZip (IsDealt plan.setting.n) run.world.boxes.items rows)
    (clients : AllZip (IsNewClient run.world.logs.items) plan.clients run.clients.items)
    (drivers_are : run.drivers.items ≡ drivers_from plan.arrivals 0 (map (pass_with 2) run.world.logs.items))
    (workers_are : run.workers.items
    ≡ workers_from 0 seats (map (pass_with 1) run.world.logs.items) takes (map (λ k. column k rows) (range_with_len 0 plan.setting.n)))
    (due_is : run.due ≡ due_of plan.setting.n plan.faulty (map (λ s. s.feed.txs) seats))
    (turns_none : run.turns ≡ 0) where
  abbrev n : ℕ
  n = plan.setting.n

  abbrev logs : List Log
  logs = run.world.logs.items

  abbrev boxes : List Box
  boxes = run.world.boxes.items

  abbrev sends : List (List SendPass)
  sends = map (λ k. column k rows) (range_with_len 0 n)

  abbrev own : List (Known Tx)
  own = map (pass_with 1) logs

  abbrev ws : List (Working S)
  ws = workers_from 0 seats own takes sends

  seat_count : length seats ≡ n
  seat_count = seats_count plan m shape sealers seats places seats_are

  own_count : length own ≡ length seats
  own_count = length-map logs (pass_with 1) ∙ logs_count ∙ sym seat_count

  take_count : length takes ≡ length seats
  take_count = ap length takes_are ∙ length-map boxes (λ b. receiver_in b []) ∙ boxes_count ∙ sym seat_count

  send_count : length sends ≡ length seats
  send_count = length-map (range_with_len 0 n) (λ k. column k rows) ∙ length-range_with_len 0 n ∙ sym seat_count

  worker_count : length ws ≡ n
  worker_count = workers_count 0 seats own takes sends own_count take_count send_count ∙ seat_count

  -- the worker of a replica
  record AtPlace (at : ℕ) : Type 0 where
    pub log : Log
    pub box : Box
    pub seat : Seated S
    pub is_log : slice_get logs at ≡ Some log
    pub is_box : slice_get boxes at ≡ Some box
    pub is_seat : slice_get seats at ≡ Some seat
    pub worker : slice_get ws at ≡ Some (worker_with at seat (pass_with 1 log) (receiver_in box []) (column at rows))

  at_place : (at : ℕ) → at < n → AtPlace at
  at_place at lt =
      let len = logs_count in
      let (l, il) = found_at logs at (omega (arith, len, lt)) in
      let many = boxes_count in
      let (b, ib) = found_at boxes at (omega (arith, many, lt)) in
      let count = seat_count in
      let (s, is) = found_at seats at (omega (arith, count, lt)) in
      let io : slice_get own at ≡ Some (pass_with 1 l) = slice_get-map (pass_with 1) logs at ∙ ap (option_map (pass_with 1)) il in
      let it : slice_get takes at ≡ Some (receiver_in b []) = ap (λ (l : List Receiver). slice_get l at) takes_are
      ∙ slice_get-map (λ (x : Box). receiver_in x []) boxes at ∙ ap (option_map (λ (x : Box). receiver_in x [])) ib in
      let none : 0 + at ≡ at = omega arith in
      let ir : slice_get sends at ≡ Some (column at rows) =
      slice_get-map (λ k. column k rows) (range_with_len 0 n) at ∙ ap (option_map (λ (k : ℕ). column k rows)) (range_at 0 n at lt)
      ∙ ap (λ (k : ℕ). Some (column k rows)) none in record {
        log = l;
        box = b;
        seat = s;
        is_log = il;
        is_box = ib;
        is_seat = is;
        worker = workers_at 0 seats own takes sends at s (pass_with 1 l) (receiver_in b []) (column at rows) is io it ir
            ∙ ap (λ (k : ℕ). Some (worker_with k s (pass_with 1 l) (receiver_in b []) (column at rows))) none;
      }

  in_run : (at : ℕ) (w : Working S) → slice_get ws at ≡ Some w → slice_get run.workers.items at ≡ Some w
  in_run at w is = ap (λ (l : List (Working S)). slice_get l at) workers_are ∙ is

  worker_ready : (at : ℕ) → at < n → (w : Working S) → slice_get ws at ≡ Some w → Ready logs boxes w
  worker_ready at lt w is =
      let a : AtPlace at = at_place at lt in
      let same : worker_with at a.seat (pass_with 1 a.log) (receiver_in a.box []) (column at rows) ≡ w =
      same_Some (worker_with at a.seat (pass_with 1 a.log) (receiver_in a.box []) (column at rows)) w (sym a.worker ∙ is) in
      subst (Ready logs boxes) same (
        record {
          log = (a.log, a.is_log, refl);
          take = (a.box, a.is_box, (refl, refl), all_at (λ (b : Box). b.senders ≡ n) boxes at a.box boxes_senders a.is_box ∙ sym boxes_count);
          senders = All-nil (IsOf (length boxes));
          sends = senders_of boxes rows n at dealt boxes_senders lt;
          known = omega arith;
        },
        omega arith,
      )

  workers_ready : All (Ready logs boxes) ws
  workers_ready = all_places (Ready logs boxes) ws (λ k w is. (
      let lt = slice_get_within ws k w is in
      let count = worker_count in
      worker_ready k (omega (arith, lt, count)) w is))

  feeds_are : map (λ (s : Seated S). s.feed.txs) seats ≡ map (λ at. txs_of (timed_for plan at)) (everyone plan)
  unfolding feed_of
  feeds_are =
      both seats ∙ ap (map (λ (r : Shape). r.feed.txs)) seats_are ∙ each sealers ∙ ap (map (λ at. txs_of (timed_for plan at))) places
    where
      both : (ss : List (Seated S)) → map (λ (s : Seated S). s.feed.txs) ss ≡ map (λ (r : Shape). r.feed.txs) (map (replica_of m) ss)
      both [] = refl
      both (s ∷ ss) = ap (λ (l : List (List Tx)). s.feed.txs ∷ l) (both ss)

      each : (ss : List A) → map (λ (r : Shape). r.feed.txs) (map (λ s. fresh_replica plan (shape s)) ss)
          ≡ map (λ at. txs_of (timed_for plan at)) (map (λ s. (shape s).replica) ss)
      each [] = refl
      each (s ∷ ss) = ap (λ (l : List (List Tx)). txs_of (timed_for plan (shape s).replica) ∷ l) (each ss)

  manned : IsManned plan run
  manned = record {
    logs = logs_count;
    boxes = boxes_count;
    workers = ap length workers_are ∙ worker_count;
    ready = subst (All (Ready logs boxes)) (sym workers_are) workers_ready;
    of = all_places (OfClient logs) run.clients.items
        (λ k c is. (let (p, there, new) = zip_back (IsNewClient logs) plan.clients run.clients.items k c clients is in new.of));
    seats = λ k w is. seated 0 seats own takes sends k w (ap (λ (l : List (Working S)). slice_get l k) (sym workers_are) ∙ is) ∙ omega arith;
    replicas = λ at lt. (
        let a : AtPlace at = at_place at lt in
        (worker_with at a.seat (pass_with 1 a.log) (receiver_in a.box []) (column at rows), in_run at _ a.worker, (refl, refl), refl));
    clients = zip_map (IsNewClient logs) IsClientOf (λ p c new. (new.id, new.count)) plan.clients run.clients.items clients;
    drivers = subst (AllZip IsDriverOf logs) (sym drivers_are) (drivers_of_logs plan.arrivals 0 logs);
    parts = subst (AllZip (λ l d. l.parts ≡ d.pass.parts + 1 + length plan.clients) logs) (sym drivers_are)
        (parts_of_logs plan.arrivals (length plan.clients) 0 logs logs_parts);
    given = λ at d is. (
        let none : 0 + at ≡ at = omega arith in
        subst (λ (i : ℕ). HasGiven (arrivals_for plan.arrivals i) d) none
        (given_at plan.arrivals 0 logs at d (ap (λ (l : List Driver). slice_get l at) (sym drivers_are) ∙ is)));
    due = due_is ∙ ap (due_of n plan.faulty) feeds_are;
  }

  counted : run.ticks ≡ 0 → IsCounted plan run
  counted no_ticks = record {
    turns = (
        let all : sum_by turns_by run.workers.items ≡ sum_by turns_by ws = ap (sum_by turns_by) workers_are in
        let one = no_deliveries 0 seats own takes sends in
        let none = turns_none in
        omega (arith, all, one, none));
    few = (let none = turns_none in let more = some in omega (arith, none, more));
    few_ticks = omega (arith, no_ticks);
  }

  module _ (fits : Check) (gives : ℕ → Gives) (capacity : ℕ) (signers : map shape sealers ≡ fresh_signers plan gives capacity) where
    -- the replica of a seat is the one that its place has
    seat_is : (at : ℕ) (s : Seated S) → at < n → slice_get seats at ≡ Some s → replica_of m s ≡ fresh_replica plan (signer at capacity (gives at) 0)
    seat_is at s lt is =
        let none : 0 + at ≡ at = omega arith in
        let first : slice_get (map (replica_of m) seats) at ≡ Some (replica_of m s) =
        slice_get-map (replica_of m) seats at ∙ ap (option_map (replica_of m)) is in
        let second : slice_get (map (fresh_replica plan) (map shape sealers)) at ≡ Some (fresh_replica plan (signer at capacity (gives at) 0)) =
        ap (λ (l : List Signer). slice_get (map (fresh_replica plan) l) at) signers
        ∙ slice_get-map (fresh_replica plan) (fresh_signers plan gives capacity) at
        ∙ ap (option_map (fresh_replica plan)) (slice_get-map (λ (i : ℕ). signer i capacity (gives i) 0) (everyone plan) at
        ∙ ap (option_map (λ (i : ℕ). signer i capacity (gives i) 0)) (range_at 0 n at lt))
        ∙ ap (λ (i : ℕ). Some (fresh_replica plan (signer i capacity (gives i) 0))) none in
        same_Some (replica_of m s) (fresh_replica plan (signer at capacity (gives at) 0))
        (sym first ∙ ap (λ (l : List Shape). slice_get l at) (seats_are ∙ two sealers) ∙ second)
      where
        two : (ss : List A) → map (λ s. fresh_replica plan (shape s)) ss ≡ map (fresh_replica plan) (map shape ss)
        two [] = refl
        two (s ∷ ss) = ap (λ (l : List Shape). fresh_replica plan (shape s) ∷ l) (two ss)

    no_journal : (at : ℕ) → at < n → journals_at run.workers.items at ≡ []
    no_journal at lt =
        let a : AtPlace at = at_place at lt in
        ap (λ (o : Option (Working S)). option_map_or journal_of o []) (in_run at _ a.worker) ∙ ap (λ (r : Shape). r.journal) (seat_is at a.seat lt a.is_seat)

    new_worker : (at : ℕ) → (lt : at < n)
        → IsNew plan m (gives at) capacity
        at (worker_with at (at_place at lt).seat (pass_with 1 (at_place at lt).log) (receiver_in (at_place at lt).box []) (column at rows))
    new_worker at lt = record {
      place = refl;
      replica = seat_is at (at_place at lt).seat lt (at_place at lt).is_seat;
      taken = refl;
      sent = λ to below. (
          let many = boxes_count in
          let (b, ib) = found_at boxes to (omega (arith, many, below)) in
          (sender_in b.name at, column_at boxes rows n at to b dealt lt ib, refl, refl));
      turns = refl;
      known = refl;
    }

    going : IsGoing fits plan m gives capacity 0 0 run
    going = record {
      manned = manned;
      stand = λ at lt. (
          let w : Working S = worker_with at (at_place at lt).seat (pass_with 1 (at_place at lt).log) (receiver_in (at_place at lt).box []) (column at rows) in
          let journal : [] ≡ w.seat.journal = sym (ap (λ (r : Shape). r.journal) (seat_is at (at_place at lt).seat lt (at_place at lt).is_seat)) in (
            w,
            in_run at w (at_place at lt).worker,
            record {
              first = w;
              new = new_worker at lt;
              did = subst (λ (j : List Entry). Did fits plan m (events_of j) w w) journal (did_nothing fits plan m w);
            },
          ));
      turns = turns_none ∙ sym (no_turns run.workers.items 0 n (λ at lt. no_journal at (omega (arith, lt))));
      few = (let none = turns_none in let more = some in omega (arith, none, more));
      next = λ k c is fault. (
          let (p, there, new) = zip_back (IsNewClient logs) plan.clients run.clients.items k c clients is in
          let zero_next = new.next in
          omega (arith, zero_next));
      timely = record {
        ticked = λ at lt. ap (λ (j : List Entry). ticks_in (events_of j)) (no_journal at lt);
        early = λ k at d le lt is p below own. absurd (let none = ap (times p) (fresh at d is).0 in omega (arith, own, none));
        given = λ at d lt is. record { given = []; all_is = sym (fresh at d is).1; by = tt };
      };
      gone = λ taken. (refl, no_journal);
    }
      where
        fresh : (at : ℕ) (d : Driver) → slice_get run.drivers.items at ≡ Some d → (d.pass.own ≡ []) × (d.feed.left ≡ arrivals_for plan.arrivals at)
        fresh at d is =
            let none : 0 + at ≡ at = omega arith in
            subst (λ (i : ℕ). (d.pass.own ≡ []) × (d.feed.left ≡ arrivals_for plan.arrivals i)) none
            (fresh_at plan.arrivals 0 logs at d (ap (λ (l : List Driver). slice_get l at) (sym drivers_are) ∙ is))

  pub begins : run.ticks ≡ 0 → Begins plan m (map shape sealers) run
  begins no_ticks = record { manned = manned; counted = counted no_ticks; ticks = no_ticks; going = going }
