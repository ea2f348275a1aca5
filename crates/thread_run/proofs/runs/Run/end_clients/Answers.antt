use Rattle.std.proofs.Common.{◌≡◌, List, refl, sym, subst, arith}
use Rattle.std.specs.Prelude.{All}
use Rattle.std.specs.List.{AllZip}
use Rattle.std.specs.Vec.{with_items}
use Rattle.std.proofs.lemmas.List.{with_items_is}
use Rattle.client_logs.specs.Clients.{OfClient}
use Rattle.client_logs.specs.declared.client.Client.{Client as ClientWorker}
use Rattle.thread_run.specs.declared.runs.Run.{Run}
use Rattle.thread_run.specs.Concluding.{Completes, HasEnded}
use Rattle.thread_run.proofs.AfterRounds.{ended_manned}
use Rattle.client_logs.proofs.Zips.{zip_length}
use Rattle.thread_run.proofs.runs.Run.end_clients.Goals as goal

pub returns : goal.returns
returns g c =
    let self = c.args.self.now in
    let ds = c.end_all.new.clients in
    let ends : AllZip Completes self.clients.items ds =
    subst (λ (cs : List ClientWorker). AllZip Completes cs ds) c.as_mut_slice.ensures.value c.end_all.ensures.ends in
    let z = zip_length Completes self.clients.items ds ends in
    let ok = self.clients.ok.0 in
    let items : (with_items self.clients ds).items ≡ ds = with_items_is self.clients ds (omega (arith, z, ok)) in
    let new : Run g.row.S.Denot = record self { clients = with_items self.clients ds } in
    let ended : HasEnded self new = record { ended = subst (AllZip Completes self.clients.items) (sym items) ends; same = refl } in record {
      ended = ended;
      manned = ended_manned c.args.plan.now self new c.requires ended (subst (All (OfClient self.world.logs.items)) (sym items) c.end_all.ensures.of);
    }
