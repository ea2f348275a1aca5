use Rattle.std.proofs.Common.{ℕ, ◌∙◌, ap, subst}
use Rattle.node_core.specs.Rows.{Check}
use Rattle.progress_laws.specs.Clean.{SealsFit}
use Rattle.run_verdict.specs.Verdicts.{verdict_of}
use Rattle.replica_seat.specs.Kits.{kit_of}
use Rattle.seal_kit.specs.Seals.{capacity_of}
use Rattle.themis_calls.specs.Replayed.{seals_of}
use Rattle.restart_run.proofs.Kits.{made_kit}
use Rattle.themis_calls.proofs.GivenRun.{run_is}
use Rattle.themis_calls.proofs.replaying.play_plan.Goals as goal

pub returns-clause-played : goal.returns-clause-played
returns-clause-played g c =
    let seals = seals_of g.M.SealMaker g.M.CheckerMaker.keys_fit c.args.maker.now in
    let made = c.in_ok-kit.ensures in
    run_is g.M.S.Sealer.replica g.M.S.Sealer.capacity g.M.S.Sealer.made g.M.S.Sealer.gives
    (g.M.C.Checker.meaning c.in_ok-kit.kit.checker) seals c.args.plan.now c.n.result
    c.in_ok-run.run' c.in_ok-kit.kit.sealers.items c.n.ensures.value c.in_ok-run.ensures.play made.checker made.replicas made.fresh made.room made.gives

pub returns-clause-examined : goal.returns-clause-examined
returns-clause-examined g c =
    let plan = c.args.plan.now in
    let run = c.in_ok-run.run' in
    let fits = g.M.SealMaker.fits c.args.maker.now plan.seed plan.height in
    c.in_ok-verdict.ensures
    ∙ ap (λ (check : Check). verdict_of check run) c.in_ok-kit.ensures.checker
    ∙ ap (λ (n : ℕ). verdict_of (fits n) run) c.n.ensures.value

pub returns-clause-sealed : goal.returns-clause-sealed
returns-clause-sealed g c =
    let plan = c.args.plan.now in
    let fits = g.M.SealMaker.fits c.args.maker.now plan.seed plan.height in
    let gives = g.M.SealMaker.gives c.args.maker.now plan.seed plan.height in
    let made = c.in_ok-kit.ensures in
    subst (λ (n : ℕ). SealsFit (fits n) n (gives n)) c.n.ensures.value (record { fit = made.agree; short = made.short })

pub turn_by_turn-requires-clause-kit : goal.turn_by_turn-requires-clause-kit
turn_by_turn-requires-clause-kit g c κs lifetimes =
    let s = g.M.S.Sealer in
    let plan = c.args.plan.now in
    let made = c.in_ok-kit.ensures in
    let gives = g.M.SealMaker.gives c.args.maker.now plan.seed plan.height in
    made_kit s.replica s.capacity s.made s.gives (gives c.n.result)
    (capacity_of plan.height) c.n.result c.in_ok-kit.kit.sealers.items made.replicas made.fresh made.room made.gives
    ∙ ap (λ (n : ℕ). kit_of (gives n) (capacity_of plan.height) n) c.n.ensures.value
