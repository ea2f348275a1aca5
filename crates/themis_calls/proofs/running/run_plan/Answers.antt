use Rattle.std.proofs.Common.{ℕ, ◌∙◌, ap}
use Rattle.node_core.specs.Rows.{Check}
use Rattle.node_core.specs.Reported.{Gives}
use Rattle.round_rules.specs.Ran.{Ran}
use Rattle.run_verdict.specs.Verdicts.{verdict_of}
use Rattle.themis_calls.specs.Replayed.{seals_of}
use Rattle.themis_calls.proofs.Rounds.{of_kit, ran_is}
use Rattle.themis_calls.proofs.running.run_plan.Goals as goal

pub returns-clause-ran : goal.returns-clause-ran
returns-clause-ran g c =
    let plan = c.args.plan.now in
    let seals = seals_of g.M.SealMaker g.M.CheckerMaker.keys_fit c.args.maker.now in
    let made = c.in_ok-kit.ensures in
    let meaning = g.M.C.Checker.meaning c.in_ok-kit.kit.checker in
    let run = c.in_ok-run.run' in
    ran_is meaning seals plan c.n.result run c.n.ensures.value made.checker
    (of_kit g.M.S.Sealer.replica g.M.S.Sealer.capacity g.M.S.Sealer.made g.M.S.Sealer.gives seals plan c.n.result c.in_ok-kit.kit.sealers.items
    (λ (gives : ℕ → Gives) (full : ℕ). Ran meaning plan gives full run) c.n.ensures.value c.in_ok-run.ensures.ran made.replicas made.fresh made.room made.gives)

pub returns-clause-examined : goal.returns-clause-examined
returns-clause-examined g c =
    let plan = c.args.plan.now in
    let run = c.in_ok-run.run' in
    let fits = g.M.SealMaker.fits c.args.maker.now plan.seed plan.height in
    c.in_ok-verdict.ensures
    ∙ ap (λ (check : Check). verdict_of check run) c.in_ok-kit.ensures.checker
    ∙ ap (λ (n : ℕ). verdict_of (fits n) run) c.n.ensures.value
