use Rattle.std.proofs.Common.{sym, ◌∙◌}
use Rattle.std.proofs.lemmas.Result.{IfOk-weaker}
use Rattle.std.proofs.lemmas.Simd.{map-map}
use Rattle.fault_script.specs.Sealing.{signer}
use Rattle.replica_seat.specs.Opening.{fresh_replica}
use Rattle.restart_run.proofs.play.start.Goals as goal

pub returns : goal.returns
returns g c =
    let s = g.S.Sealer in
    let plan = c.args.plan.now in
    let seen = λ (x : g.row.S.Denot). signer (s.replica x) (s.capacity x) (s.gives x) (s.made x) in
    let replicas = c.in_ok-seats_of.ensures ∙ sym (map-map (fresh_replica plan) seen c.args.sealers.items) in
    IfOk-weaker c.network_of.result _ _ (λ network is. is _ replicas) c.network_of.ensures
