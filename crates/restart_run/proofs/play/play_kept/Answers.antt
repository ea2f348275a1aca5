use Rattle.std.proofs.Common.{ap, ◌∙◌, arith, rules}
use Rattle.replica_seat.specs.Seats.{meaning}
use Rattle.replay_run.specs.Kept.{meant}
use Rattle.replay_run.specs.Play.{record_of, run_for, start_of, steps_of}
use Rattle.replay_run.specs.World.{World}
use Rattle.restart_run.proofs.KeeperStart.{start_kept, start_ticks, start_turns}
use Rattle.restart_run.proofs.Logs.{record_logged}
use Rattle.restart_run.specs.Started.{ground, none_failed}
use Rattle.restart_run.proofs.play.play_kept.Goals as goal

pub returns-in_err-keepers-clause-fault : goal.returns-in_err-keepers-clause-fault
returns-in_err-keepers-clause-fault g c least all =
    let stop = c.in_err-keepers.ensures.fault least all in
    let same = c.from_residual-in_err-keepers.ensures in
    search rules

pub run_kept-requires-clause-turns : goal.run_kept-requires-clause-turns
run_kept-requires-clause-turns g c κs lifetimes = ap (λ (w : World). w.turns) c.in_ok-network.ensures ∙ start_turns c.args.plan.now _

pub run_kept-requires-clause-ticks : goal.run_kept-requires-clause-ticks
run_kept-requires-clause-ticks g c κs lifetimes = ap (λ (w : World). w.ticks) c.in_ok-network.ensures ∙ start_ticks c.args.plan.now _

pub run_kept-requires-clause-kept : goal.run_kept-requires-clause-kept
run_kept-requires-clause-kept g c κs lifetimes =
    let plan = c.args.plan.now in
    let means = meaning g.M.S.Sealer.replica g.M.S.Sealer.gives in
    let ground = ground (meant g.K.Keeper) means (g.C.Checker.meaning c.args.checker.now) plan (g.M.SealMaker.gives c.args.maker.now) in
    start_kept ground none_failed c.in_ok-keepers.keepers c.in_ok-network.network
    (c.in_ok-keepers.ensures.begun none_failed (λ at k here. omega arith)) (c.in_ok-network.ensures ∙ ap (start_of plan) c.requires.kit)

pub returns-in_err-released-in-Ok-clause-fault : goal.returns-in_err-released-in-Ok-clause-fault
returns-in_err-released-in-Ok-clause-fault g c least all = search rules

pub returns-in_ok-released-in-Ok-clause-play : goal.returns-in_ok-released-in-Ok-clause-play
returns-in_ok-released-in-Ok-clause-play g c =
    let plan = c.args.plan.now in
    let fits = g.C.Checker.meaning c.args.checker.now in
    c.in_ok-record_of-in-Ok.ensures.shown
    ∙ ap (record_of plan)
    (c.in-Ok.ensures.world ∙ ap (λ (w : World). run_for fits plan w (steps_of plan)) (c.in_ok-network.ensures ∙ ap (start_of plan) c.requires.kit))

pub returns-in_ok-released-in-Ok-clause-logs : goal.returns-in_ok-released-in-Ok-clause-logs
returns-in_ok-released-in-Ok-clause-logs g c =
    let plan = c.args.plan.now in
    let means = meaning g.M.S.Sealer.replica g.M.S.Sealer.gives in
    let ground = ground (meant g.K.Keeper) means (g.C.Checker.meaning c.args.checker.now) plan (g.M.SealMaker.gives c.args.maker.now) in
    let first = start_kept ground none_failed c.in_ok-keepers.keepers c.in_ok-network.network
    (c.in_ok-keepers.ensures.begun none_failed (λ at k here. omega arith)) (c.in_ok-network.ensures ∙ ap (start_of plan) c.requires.kit) in
    record_logged ground none_failed c.run_kept.new.keepers c.run_kept.new.network _ _
    c.in_ok-record_of-in-Ok.ensures.shown c.in_ok-released-in-Ok.ensures (c.in-Ok.ensures.kept.go none_failed first)

pub returns-in-Err-clause-fault : goal.returns-in-Err-clause-fault
returns-in-Err-clause-fault g c least all =
    let plan = c.args.plan.now in
    let means = meaning g.M.S.Sealer.replica g.M.S.Sealer.gives in
    let ground = ground (meant g.K.Keeper) means (g.C.Checker.meaning c.args.checker.now) plan (g.M.SealMaker.gives c.args.maker.now) in
    c.handed_back.ensures least
    (c.in-Err.ensures.kept.go least
    (start_kept ground least c.in_ok-keepers.keepers c.in_ok-network.network (c.in_ok-keepers.ensures.begun least all)
    (c.in_ok-network.ensures ∙ ap (start_of plan) c.requires.kit)))
