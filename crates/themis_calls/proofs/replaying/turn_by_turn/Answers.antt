use Rattle.std.proofs.Common.{ap, sym, ◌∙◌}
use Rattle.std.proofs.lemmas.Result.{IfOk-weaker}
use Rattle.replay_run.specs.Play.{play_of}
use Rattle.themis_calls.proofs.replaying.turn_by_turn.Goals as goal

pub returns-then-restarts-clause-play : goal.returns-then-restarts-clause-play
returns-then-restarts-clause-play g c =
    IfOk-weaker c.play_restarting.result _ _ (λ run is. is ∙ ap (play_of (g.M.C.Checker.meaning c.args.checker.now) c.args.plan.now) (sym c.requires.kit))
    c.play_restarting.ensures.play
