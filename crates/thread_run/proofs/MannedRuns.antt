-- A run stays manned, whatever its workers and its driver do.
use Rattle.std.proofs.Common.{◌≡◌, ℕ, zero, suc, ◌+◌, ◌<◌, ◌≤◌, List, [], ◌∷◌, length, ap, sym, subst, ◌∙◌, arith}
use Rattle.std.specs.Prelude.{All, Some, false, slice_get, sum_by}
use Rattle.std.specs.List.{AllZip}
use Rattle.std.proofs.lemmas.List.Sums.{sum_by-cons}
use Rattle.std.proofs.lemmas.Option.{same_Some}
use Rattle.seq_base.specs.declared.tx.Tx.{Tx}
use Rattle.locked_log.specs.History.{HasLooked, Known, Opened as Log}
use Rattle.client_logs.specs.Clients.{IsFresh, OfClient}
use Rattle.client_logs.specs.declared.client.Client.{Client as ClientWorker}
use Rattle.plan_text.specs.declared.plan.Client.{Client as Sender}
use Rattle.plan_text.specs.declared.plan.Plan.{Plan}
use Rattle.replica_seat.specs.Feed.{arrivals_for}
use Rattle.thread_run.specs.declared.driver.Driver.{Driver}
use Rattle.thread_run.specs.declared.runs.Run.{Run}
use Rattle.thread_run.specs.Going.{HasGiven, IsClientOf, IsManned}
use Rattle.thread_run.specs.Steps.{turns_by}
use Rattle.thread_run.specs.Exchange.{AreSeated, IsDriverOf, ReportedClient, ReportedWorker}
use Rattle.thread_run.specs.Workers.{Ready, Working}
use Rattle.client_logs.proofs.Zips.{zip_length}
use Rattle.thread_run.proofs.Zips.{zip_back, zip_there}

-- what a replica's worker and a client keep, whatever they do
abbrev pub Serves : {S : Type 0} → Working S → Working S → Type 0
Serves v w = (w.at ≡ v.at) × HasLooked v.log w.log × (v.failed ≡ false → w.failed ≡ false)

abbrev pub Remains : ClientWorker → ClientWorker → Type 0
Remains c d = (d.id ≡ c.id) × (d.count ≡ c.count)

abbrev pub PartsAddUp : Plan → Log → Driver → Type 0
PartsAddUp plan log d = log.parts ≡ d.pass.parts + 1 + length plan.clients

fresh_on : (p q : Known Tx) → HasLooked p q → IsFresh p → IsFresh q
fresh_on p q h f = (ap (λ (x : Known Tx). x.parts) h.same ∙ f.0, ap (λ (x : Known Tx). x.own) h.same ∙ f.1)

clients_on : (ps : List Sender) (cs ds : List ClientWorker) → AllZip IsClientOf ps cs → AllZip Remains cs ds → AllZip IsClientOf ps ds
clients_on [] [] [] z r = tt
clients_on [] [] (d ∷ ds) z r = absurd r
clients_on [] (c ∷ cs) ds z r = absurd z
clients_on (p ∷ ps) [] ds z r = absurd z
clients_on (p ∷ ps) (c ∷ cs) [] z r = absurd r
clients_on (p ∷ ps) (c ∷ cs) (d ∷ ds) z r = ((r.0.0 ∙ z.0.0, r.0.1 ∙ z.0.1), clients_on ps cs ds z.1 r.1)

pub client_remains : (c d : ClientWorker) → ReportedClient c d → Remains c d
client_remains c d h = (h.same.0, h.same.1)

module _ {S : Type 0} where
  pub serves_heard : (v w : Working S) → ReportedWorker v w → Serves v w
  serves_heard v w h = (ap (λ (x : Working S). x.at) h.rest, h.looked, λ ok. ap (λ (x : Working S). x.failed) h.rest ∙ ok)

  pub manned_on : (plan : Plan) (old : Run S) (workers : List (Working S)) (clients : List ClientWorker) (drivers : List Driver)
      → IsManned plan old → AllZip Serves old.workers.items workers
      → AllZip Remains old.clients.items clients → All (Ready old.world.logs.items old.world.boxes.items) workers → All (OfClient old.world.logs.items) clients
      → AllZip IsDriverOf old.world.logs.items drivers → AllZip (PartsAddUp plan) old.world.logs.items drivers
      → ((at : ℕ) (d : Driver) → slice_get drivers at ≡ Some d → HasGiven (arrivals_for plan.arrivals at) d)
      → (new : Run S) → new.world ≡ old.world → new.due ≡ old.due → new.workers.items ≡ workers → new.clients.items ≡ clients
      → new.drivers.items ≡ drivers → IsManned plan new
  manned_on plan old workers clients drivers m z r ready of own parts given new world due workers_are clients_are drivers_are = record {
    logs = ap (λ w. length w.logs.items) world ∙ m.logs;
    boxes = ap (λ w. length w.boxes.items) world ∙ m.boxes;
    workers = ap length workers_are ∙ sym (zip_length Serves old.workers.items workers z) ∙ m.workers;
    ready = subst (λ w. All (Ready w.logs.items w.boxes.items) new.workers.items) (sym world)
        (subst (All (Ready old.world.logs.items old.world.boxes.items)) (sym workers_are) ready);
    of = subst (λ w. All (OfClient w.logs.items) new.clients.items) (sym world) (subst (All (OfClient old.world.logs.items)) (sym clients_are) of);
    seats = subst AreSeated (sym workers_are) (λ k w is. (let (v, there, s) = zip_back Serves old.workers.items workers k w z is in s.0 ∙ m.seats k v there));
    replicas = subst (λ (ws : List (Working S)). (at : ℕ)
        → at < plan.setting.n → (w : Working S) × (slice_get ws at ≡ Some w) × IsFresh w.log × (w.failed ≡ false))
        (sym workers_are) (λ at lt.
        let (v, is, fresh, ok) = m.replicas at lt in
        let (w, here, s) = zip_there Serves old.workers.items workers at v z is in (w, here, fresh_on v.log w.log s.1 fresh, s.2 ok));
    clients = subst (AllZip IsClientOf plan.clients) (sym clients_are) (clients_on plan.clients old.clients.items clients m.clients r);
    drivers = subst (λ w. AllZip IsDriverOf w.logs.items new.drivers.items) (sym world) (subst (AllZip IsDriverOf old.world.logs.items) (sym drivers_are) own);
    parts = subst (λ w. AllZip (PartsAddUp plan) w.logs.items new.drivers.items) (sym world)
        (subst (AllZip (PartsAddUp plan) old.world.logs.items) (sym drivers_are) parts);
    given = subst (λ (ds : List Driver). (at : ℕ) (d : Driver) → slice_get ds at ≡ Some d → HasGiven (arrivals_for plan.arrivals at) d) (sym drivers_are) given;
    due = due ∙ m.due;
  }

  -- no worker delivered more than all
  pub turns_within : (workers : List (Working S)) (i : ℕ) (w : Working S) → slice_get workers i ≡ Some w → turns_by w ≤ sum_by turns_by workers
  turns_within [] i w is = absurd (cc (is))
  turns_within (x ∷ ws) zero w is =
      let s = sum_by-cons turns_by x ws in
      let same : turns_by x ≡ turns_by w = ap turns_by (same_Some x w is) in omega (arith, s, same)
  turns_within (x ∷ ws) (suc i) w is = (let s = sum_by-cons turns_by x ws in let rest = turns_within ws i w is in omega (arith, s, rest))
