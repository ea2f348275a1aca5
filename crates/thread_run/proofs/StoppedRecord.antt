-- What the record of a run that stopped shows.
use Rattle.std.proofs.Common.{◌≡◌, ℕ, zero, suc, ◌+◌, ◌<◌, List, [], ◌∷◌, length, get_or, map, ap, sym, subst, ◌∙◌, arith}
use Rattle.std.specs.Prelude.{All, Some, None, slice_get}
use Rattle.std.specs.List.{AllZip}
use Rattle.std.specs.Option.{option_map, option_map_or}
use Rattle.std.proofs.lemmas.Option.{get_or_from_slice_get, same_Some, slice_get-get_or, slice_get-map, slice_get_within}
use Rattle.std.proofs.lemmas.List.{length-map}
use Rattle.std.proofs.lemmas.List.Elements.{All-cons, All-head, All-nil, All-tail}
use Rattle.std.proofs.lemmas.List.Sums.{sum_by-cons}
use mathlib.Core.List.{IsPrefix}
use Rattle.seq_base.specs.declared.tx.Tx.{Tx}
use Rattle.locked_log.specs.History.{IsPassOf, Known, Opened as Log}
use Rattle.arrival_log.specs.Arrivals.{IsArrivals}
use Rattle.client_logs.specs.Clients.{OfClient}
use Rattle.client_logs.specs.Merges.{IsMerge}
use Rattle.client_logs.specs.declared.client.Client.{Client as ClientWorker}
use Rattle.plan_text.specs.declared.plan.Client.{Client as Sender}
use Rattle.plan_text.specs.declared.plan.Plan.{Plan}
use Rattle.replica_seat.specs.Feed.{arrivals_for}
use Rattle.round_rules.specs.Submissions.{submitted_to}
use Rattle.round_rules.proofs.Places.{all_at, found_at}
use Rattle.thread_run.specs.declared.driver.Driver.{Driver}
use Rattle.thread_run.specs.declared.runs.Run.{Run}
use Rattle.thread_run.specs.Finishing.{AreAllPasses, AreFinished, CanFinish, CanMerge, HadMemory, HasClient, HasRoom, IsListOf, MergeLaws, column, rows_of}
use Rattle.thread_run.specs.Going.{AllTaken, HasStopped, IsClientOf, IsManned, IsOwned}
use Rattle.thread_run.specs.Standing.{seen_at, seen_by}
use Rattle.thread_run.specs.Exchange.{IsDriverOf}
use Rattle.thread_run.specs.Workers.{Belongs, Ready, Working}
use Rattle.thread_run.proofs.MergedLogs.{client_found_room, driver_took, merge_is, no_fault, owned_is, seen_worker, some_full}
use Rattle.thread_run.proofs.Columns.{can_finish, column_of, finished_at}
use Rattle.client_logs.proofs.Zips.{zip_length}
use Rattle.thread_run.proofs.Zips.{zip_from, zip_there}

-- ---- lists, place by place

zip_get : {A B : Type 0} (R : A → B → Type 0) (xs : List A) (ys : List B) (k : ℕ) (x : A) (y : B) → AllZip R xs ys → slice_get xs k ≡ Some x
    → slice_get ys k ≡ Some y → R x y
zip_get R [] ys k x y z a b = absurd (cc)
zip_get R (v ∷ xs) [] k x y z a b = absurd z
zip_get R (v ∷ xs) (w ∷ ys) zero x y z a b = subst (λ (u : _). R u y) (same_Some v x a) (subst (R v) (same_Some w y b) z.0)
zip_get R (v ∷ xs) (w ∷ ys) (suc k) x y z a b = zip_get R xs ys k x y z.1 a b

module _ {S : Type 0} (plan : Plan) (run : Run S) (stopped : HasStopped plan run) where
  abbrev n : ℕ
  n = plan.setting.n

  abbrev pub workers : List (Working S)
  workers = run.workers.items

  abbrev clients : List ClientWorker
  clients = run.clients.items

  abbrev logs : List Log
  logs = run.world.logs.items

  abbrev drivers : List Driver
  drivers = run.drivers.items

  abbrev manned : IsManned plan run
  manned = stopped.manned

  client_count : length clients ≡ length plan.clients
  client_count = sym (zip_length IsClientOf plan.clients clients manned.clients)

  log_count : length logs ≡ n
  log_count = manned.logs

  driver_count : length drivers ≡ length logs
  driver_count = sym (zip_length IsDriverOf logs drivers manned.drivers)

  own_at : (k : ℕ) (w : Working S) → slice_get workers k ≡ Some w → slice_get (map (λ (v : Working S). v.log) workers) k ≡ Some w.log
  own_at k w is = slice_get-map (λ (v : Working S). v.log) workers k ∙ ap (option_map (λ (v : Working S). v.log)) is

  -- all passes of the log at a place
  passes_are : (k : ℕ) (l : Log) (d : Driver) (o : Known Tx) → slice_get logs k ≡ Some l → slice_get drivers k ≡ Some d
      → slice_get (map (λ (v : Working S). v.log) workers) k ≡ Some o
      → AreAllPasses l (d.pass ∷ o ∷ column k (rows_of clients))
  passes_are k l d o il id io =
      let below : k < n = (let len = log_count in let lt = slice_get_within logs k l il in omega (arith, len, lt)) in
      let (w, at, fresh, kept) = manned.replicas k below in
      let same : w.log ≡ o = same_Some w.log o (sym (own_at k w at) ∙ io) in
      let of : IsDriverOf l d = zip_get IsDriverOf logs drivers k l d manned.drivers il id in
      let belongs : Belongs logs run.world.boxes.items w = (all_at (Ready logs run.world.boxes.items) workers k w manned.ready at).0 in
      let place : w.at ≡ k = manned.seats k w at in
      let (x, there, own) = belongs.log in
      let here : x ≡ l = same_Some x l (sym there ∙ ap (slice_get logs) place ∙ il) in
      let column_is = column_of logs k l il clients manned.of in
      let parts : l.parts ≡ d.pass.parts + 1 + length plan.clients =
      zip_get (λ (log : Log) (e : Driver). log.parts ≡ e.pass.parts + 1 + length plan.clients) logs drivers k l d manned.parts il id in
      let first = sum_by-cons (λ (p : Known Tx). p.parts) d.pass (o ∷ column k (rows_of clients)) in
      let second = sum_by-cons (λ (p : Known Tx). p.parts) o (column k (rows_of clients)) in
      let one : o.parts ≡ 1 = ap (λ (p : Known Tx). p.parts) (sym same) ∙ fresh.0 in
      let rest = column_is.1 in
      let count = client_count in
      record {
        of = All-cons (IsPassOf l) d.pass (o ∷ column k (rows_of clients)) of.0
            (All-cons (IsPassOf l) o (column k (rows_of clients)) (subst (IsPassOf l) same (subst (λ (y : Log). IsPassOf y w.log) here own)) column_is.0);
        parts = omega (arith, parts, first, second, one, rest, count);
      }

  pub can : CanFinish logs drivers (map (λ (w : Working S). w.log) workers) (rows_of clients)
  can =
      let own_count : length (map (λ (w : Working S). w.log) workers) ≡ length logs =
      length-map workers (λ (w : Working S). w.log) ∙ manned.workers ∙ sym log_count in
      can_finish logs drivers (map (λ (w : Working S). w.log) workers) (rows_of clients) driver_count own_count (rows clients manned.of) passes_are
    where
      rows : (cs : List ClientWorker) → All (OfClient logs) cs → All (λ row. length row ≡ length logs) (rows_of cs)
      rows [] all = All-nil (λ row. length row ≡ length logs)
      rows (c ∷ cs) all =
          All-cons (λ row. length row ≡ length logs) c.passes.items (rows_of cs)
          (sym (zip_length IsPassOf logs c.passes.items (All-head (OfClient logs) c cs all).passes))
          (rows cs (All-tail (OfClient logs) c cs all))

  -- ---- what the lists of the logs are

  module _ (laws : MergeLaws) (room : (at : ℕ) → at < n → HasRoom plan at) (had : All (λ d. HadMemory d.fault) drivers)
      (clients_had : All (λ c. HadMemory c.fault) clients)
      (lists : List (List Tx)) (count : length lists ≡ length logs)
      (finished : AreFinished drivers (map (λ (w : Working S). w.log) workers) (rows_of clients) lists) where
    all_clients : AllZip (HasClient logs) plan.clients clients
    all_clients = zip_from (HasClient logs) plan.clients clients (sym client_count) each
      where
        each : (i : ℕ) (p : Sender) (e : ClientWorker) → i < length plan.clients → HasClient logs (get_or plan.clients i p) (get_or clients i e)
        each i p e lt =
            let (c, found, is_of) = zip_there IsClientOf plan.clients clients i (get_or plan.clients i p) manned.clients
            (slice_get-get_or plan.clients i p lt) in
            let same : get_or clients i e ≡ c = get_or_from_slice_get clients i c e found in
            subst (HasClient logs (get_or plan.clients i p)) (sym same) (record {
              id = is_of.0;
              count = is_of.1;
              of = all_at (OfClient logs) clients i c manned.of found;
              ends = stopped.clients i c found;
              had = all_at (λ (x : ClientWorker). HadMemory x.fault) clients i c clients_had found;
            })

    -- what is known of a log
    record AtLog (k : ℕ) : Type 0 where
      pub driver : Driver
      pub worker : Working S
      pub is_driver : slice_get drivers k ≡ Some driver
      pub is_worker : slice_get workers k ≡ Some worker
      pub can_merge : CanMerge plan logs k driver worker.log
      pub listed : IsListOf (driver.pass ∷ worker.log ∷ column k (rows_of clients)) (get_or lists k [])

    at_log : (k : ℕ) → k < n → AtLog k
    at_log k lt =
        let below : k < length logs = (let len = log_count in omega (arith, len, lt)) in
        let (d, id) = found_at drivers k (let len = driver_count in omega (arith, len, below)) in
        let (w, at, fresh, kept) = manned.replicas k lt in
        let in_lists : k < length lists = omega (arith, count, below) in record {
          driver = d;
          worker = w;
          is_driver = id;
          is_worker = at;
          can_merge = record {
            below = below;
            room = room k lt;
            given = manned.given k d id;
            ends = stopped.drivers k d id;
            had = all_at (λ (x : Driver). HadMemory x.fault) drivers k d had id;
            bare = fresh.1;
          };
          listed = finished_at drivers (map (λ (v : Working S). v.log) workers) (rows_of clients) lists finished k d w.log
              (get_or lists k []) id (own_at k w at) (slice_get-get_or lists k [] in_lists);
        }

    clients_none : All (λ c. c.fault ≡ None) clients
    clients_none = λ j e lt. each j (get_or clients j e) (slice_get-get_or clients j e lt)
      where
        each : (j : ℕ) (c : ClientWorker) → slice_get clients j ≡ Some c → c.fault ≡ None
        each j c is = no_fault c.fault (all_at (λ (x : ClientWorker). HadMemory x.fault) clients j c clients_had is) (λ full. (
            let of : OfClient logs c = all_at (OfClient logs) clients j c manned.of is in
            let (k, q, found, was) = some_full _ c.passes.items (of.full full) in
            let len = zip_length IsPassOf logs c.passes.items of.passes in
            let lt = slice_get_within c.passes.items k q found in
            let many = log_count in
            let a : AtLog k = at_log k (omega (arith, len, lt, many)) in
            client_found_room plan logs clients laws all_clients k a.driver a.worker.log (get_or lists k []) a.can_merge a.listed j c q is full found was))

    pub taken : AllTaken drivers clients
    taken = record {
      drivers_took = λ at d is. (
          let lt : at < n = (let len = driver_count in let many = log_count in let less = slice_get_within drivers at d is in omega (arith, len, many, less)) in
          let a : AtLog at = at_log at lt in
          ap (λ (x : Driver). x.fault) (same_Some d a.driver (sym is ∙ a.is_driver))
          ∙ driver_took plan logs clients laws all_clients at a.driver a.worker.log (get_or lists at []) a.can_merge a.listed);
      clients_took = λ k c is. all_at (λ (x : ClientWorker). x.fault ≡ None) clients k c clients_none is;
    }

    pub merged : (at : ℕ) → at < n → IsMerge (submitted_to plan at) (get_or lists at [])
    merged at lt =
        let a : AtLog at = at_log at lt in
        merge_is plan logs clients laws all_clients at a.driver a.worker.log (get_or lists at []) a.can_merge a.listed clients_none

    pub owned : (at : ℕ) (d : Driver) → at < n → slice_get drivers at ≡ Some d → IsOwned (arrivals_for plan.arrivals at) d.pass (get_or lists at [])
    owned at d lt is =
        let a : AtLog at = at_log at lt in
        subst (λ (x : Driver). IsOwned (arrivals_for plan.arrivals at) x.pass (get_or lists at [])) (same_Some a.driver d (sym a.is_driver ∙ is))
        (owned_is plan logs clients laws all_clients at a.driver a.worker.log (get_or lists at []) a.can_merge a.listed clients_none)

    pub listed_at : (at : ℕ) → at < n → IsArrivals (get_or lists at [])
    listed_at at lt = (at_log at lt).listed.arrivals

    pub reported : (at : ℕ) → at < n → IsPrefix (seen_at workers at) (get_or lists at [])
    reported at lt =
        let a : AtLog at = at_log at lt in
        let seen : seen_at workers at ≡ a.worker.log.seen = ap (λ (o : _). option_map_or seen_by o []) a.is_worker in
        subst (λ (l : List Tx). IsPrefix l (get_or lists at [])) (sym seen)
        (seen_worker plan logs clients laws all_clients at a.driver a.worker.log (get_or lists at []) a.can_merge a.listed)
