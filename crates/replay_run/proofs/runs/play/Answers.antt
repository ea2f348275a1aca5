use Rattle.std.proofs.Common.{ap, sym, ◌∙◌}
use Rattle.std.proofs.lemmas.Result.{IfOk-weaker}
use Rattle.std.proofs.lemmas.Simd.{map-map}
use Rattle.fault_script.specs.Sealing.{signer}
use Rattle.replica_seat.specs.Opening.{fresh_replica}
use Rattle.replay_run.specs.Play.{record_of, run_for, steps_of}
use Rattle.replay_run.specs.World.{World}
use Rattle.replay_run.proofs.runs.play.Goals as goal

pub returns-in-Ok-clause-play : goal.returns-in-Ok-clause-play
returns-in-Ok-clause-play g c =
    let s = g.S.Sealer in
    let fits = g.C.Checker.meaning c.args.checker.now in
    let plan = c.args.plan.now in
    let seen = λ (x : g.row.S.Denot). signer (s.replica x) (s.capacity x) (s.gives x) (s.made x) in
    let started = c.in_ok-network.ensures _ (c.in_ok-seats.ensures ∙ sym (map-map (fresh_replica plan) seen c.args.sealers.items)) in
    let whole = c.in-Ok.ensures ∙ ap (λ (w : World). run_for fits plan w (steps_of plan)) started in
    IfOk-weaker c.record_of.result _ _ (λ run is. is ∙ ap (record_of plan) whole) c.record_of.ensures.shown
