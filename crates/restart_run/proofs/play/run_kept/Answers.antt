use Rattle.std.proofs.Common.{◌≡◌, ◌+◌, ◌-◌, ◌<◌, ◌≤◌, ℕ, true, false, ap, sym, subst, ◌∙◌, arith, rules}
use Rattle.replica_seat.specs.Seats.{meaning}
use Rattle.replay_run.proofs.LoopSteps.{run_more, run_over}
use Rattle.replay_run.specs.Kept.{meant}
use Rattle.replay_run.specs.Over.{left}
use Rattle.replay_run.specs.Play.{run_for, steps_of}
use Rattle.replay_run.specs.Step.{Stepped, step}
use Rattle.replay_run.specs.World.{Net, World, world_of}
use Rattle.restart_run.specs.Counts.{starts_before}
use Rattle.restart_run.specs.Started.{AreStarted, ground, none_failed}
use Rattle.restart_run.proofs.play.run_kept.Goals as goal

pub step_kept-requires-clause-kept : goal.step_kept-requires-clause-kept
step_kept-requires-clause-kept g c κs lifetimes = c.loop-step.invariant.kept none_failed c.requires.kept

pub returns-in_err-step_kept-clause-kept : goal.returns-in_err-step_kept-clause-kept
returns-in_err-step_kept-clause-kept g c = record {
  go = λ least kept.
      let stop = c.in_err-step_kept.ensures.kept.go least (c.loop-step.invariant.kept least kept) in
      search rules;
}

pub returns-then-not-branch-clause-world : goal.returns-then-not-branch-clause-world
returns-then-not-branch-clause-world g c =
    let means = meaning g.M.S.Sealer.replica g.M.S.Sealer.gives in
    let plan = c.args.plan.now in
    let fits = g.C.Checker.meaning c.args.checker.now in
    let n = steps_of plan in
    let step_number = c.loop-step.step in
    let w = world_of means c.loop-step.network in
    let stepped : step fits plan w ≡ record { goes_on = c.in_ok-step_kept.field-0; world = world_of means c.step_kept.new.network } =
    c.in_ok-step_kept.ensures.world in
    let below : step_number < n = (let most = c.most_steps-step-end.ensures in omega (arith, most, c.loop-step-test.true)) in
    let over : (step fits plan w).goes_on ≡ false = ap (λ (s : Stepped). s.goes_on) stepped ∙ c.if-not-branch.true in
    sym (ap (λ (s : Stepped). s.world) stepped) ∙ sym (run_over fits plan w step_number n below over) ∙ c.loop-step.invariant.world

pub returns-then-not-branch-clause-kept : goal.returns-then-not-branch-clause-kept
returns-then-not-branch-clause-kept g c =
    let k = g.K.Keeper in
    let means = meaning g.M.S.Sealer.replica g.M.S.Sealer.gives in
    let plan = c.args.plan.now in
    let fits = g.C.Checker.meaning c.args.checker.now in
    let ground = ground (meant k) means fits plan (g.M.SealMaker.gives c.args.maker.now) in
    let w = world_of means c.loop-step.network in
    let stepped : step fits plan w ≡ record { goes_on = c.in_ok-step_kept.field-0; world = world_of means c.step_kept.new.network } =
    c.in_ok-step_kept.ensures.world in
    let over : (step fits plan w).goes_on ≡ false = ap (λ (s : Stepped). s.goes_on) stepped ∙ c.if-not-branch.true in
    let turns : c.step_kept.new.network.turns ≡ c.loop-step.network.turns =
    sym (ap (λ (s : Stepped). s.world.turns) stepped) ∙ (c.steps_get_on.ensures fits plan w).last over in
    record {
      go = λ least kept.
          subst (λ (t : ℕ). AreStarted ground (starts_before plan.restarts (t + 1)) least c.step_kept.new.keepers c.step_kept.new.network) (sym turns)
          (c.in_ok-step_kept.ensures.kept.go least (c.loop-step.invariant.kept least kept));
    }

pub loop-step-preserved : goal.loop-step-preserved
loop-step-preserved g c =
    let k = g.K.Keeper in
    let means = meaning g.M.S.Sealer.replica g.M.S.Sealer.gives in
    let plan = c.args.plan.now in
    let fits = g.C.Checker.meaning c.args.checker.now in
    let ground = ground (meant k) means fits plan (g.M.SealMaker.gives c.args.maker.now) in
    let invariant = c.loop-step.invariant in
    let n = steps_of plan in
    let step_number = c.loop-step.step in
    let w = world_of means c.loop-step.network in
    let stepped : step fits plan w ≡ record { goes_on = c.in_ok-step_kept.field-0; world = world_of means c.step_kept.new.network } =
    c.in_ok-step_kept.ensures.world in
    let next : (step fits plan w).world ≡ world_of means c.step_kept.new.network = ap (λ (s : Stepped). s.world) stepped in
    let below : step_number < n = (let most = c.most_steps-step-end.ensures in omega (arith, most, c.loop-step-test.true)) in
    let gets_on = c.steps_get_on.ensures fits plan w in
    let on : (step fits plan w).goes_on ≡ true = ap (λ (s : Stepped). s.goes_on) stepped ∙ c.if-not-branch.false in
    let turns : c.from-from.result ≡ c.loop-step.network.turns = c.from-from.ensures ∙ ap (λ (x : Net _). x.turns) c.network.view_is in
    let reached : c.loop-step.network.turns ≤ c.step_kept.new.network.turns =
    (let a = gets_on.reached in let b = ap (λ (x : World). x.turns) next in omega (arith, a, b)) in
    let fewer : left plan (world_of means c.step_kept.new.network) < left plan w = subst (λ (x : World). left plan x < left plan w) next (gets_on.fewer on) in
    record {
      world = ap (λ (x : World). run_for fits plan x (n - (step_number + 1))) (sym next) ∙ sym (run_more fits plan w step_number n below on) ∙ invariant.world;
      near = omega (arith, turns, reached);
      left = (let inv = invariant.left in omega (arith, fewer, inv));
      kept = λ least kept.
          subst (λ (t : ℕ). AreStarted ground (starts_before plan.restarts (t + 1)) least c.step_kept.new.keepers c.step_kept.new.network) (sym turns)
          (c.in_ok-step_kept.ensures.kept.go least (invariant.kept least kept));
    }
