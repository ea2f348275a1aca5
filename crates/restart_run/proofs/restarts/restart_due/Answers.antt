use Rattle.std.proofs.Common.{◌≡◌, ◌+◌, ◌<◌, ◌≤◌, ℕ, List, length, get_or, true, false, refl, ap, sym, subst, ◌∙◌, arith, rules}
use Rattle.plan_text.specs.declared.plan.Restart.{Restart}
use Rattle.replica_seat.specs.Seats.{meaning}
use Rattle.replay_run.specs.Kept.{meant}
use Rattle.replay_run.specs.World.{Net, world_of}
use Rattle.replay_run.specs.declared.keepers.Keeping.{Keeping}
use Rattle.restart_run.proofs.StartCounts.{amid_all, amid_due, amid_few, amid_none, amid_not}
use Rattle.restart_run.proofs.OneRestart.{as_often}
use Rattle.restart_run.specs.Counts.{is_due, starts_amid, starts_before}
use Rattle.restart_run.specs.Started.{AreStarted, ground, none_failed, once_more}
use Rattle.restart_run.proofs.restarts.restart_due.Goals as goal
use Rattle.restart_run.proofs.restarts.restart_due.Goals.{then-is_due+in_ok-restart_at, else-is_due}

pub loop-restart-init : goal.loop-restart-init
loop-restart-init g c =
    let k = g.K.Keeper in
    let means = meaning g.M.S.Sealer.replica g.M.S.Sealer.gives in
    let plan = c.args.plan.now in
    let ground = ground (meant k) means (g.C.Checker.meaning c.args.checker.now) plan (g.M.SealMaker.gives c.args.maker.now) in
    let from = c.args.from in
    let turns = c.network.inside.turns in
    record {
      turns = ap (λ (n : Net _). n.turns) c.network.view_is;
      world = refl;
      kept = λ least kept.
          as_often ground (starts_before plan.restarts from) (starts_amid plan.restarts from turns 0) least c.args.keepers.now c.args.network.now
          (amid_none plan.restarts from turns) kept;
    }

pub restart_at-requires-clause-kept : goal.restart_at-requires-clause-kept
restart_at-requires-clause-kept g c κs lifetimes =
    let k = g.K.Keeper in
    let means = meaning g.M.S.Sealer.replica g.M.S.Sealer.gives in
    let plan = c.args.plan.now in
    let ground = ground (meant k) means (g.C.Checker.meaning c.args.checker.now) plan (g.M.SealMaker.gives c.args.maker.now) in
    let from = c.args.from in
    let turns = c.network.inside.turns in
    let i = c.loop-restart.restart-index in
    record {
      starts = starts_amid plan.restarts from turns i;
      few = λ at.
          let few = amid_few plan.restarts from turns i at in
          let size : length c.as_slice-restart-items.result.now ≡ length plan.restarts = ap length c.as_slice-restart-items.ensures in
          omega (arith, few, size, c.as_slice-restart-items.type_inv);
      kept = c.loop-restart.invariant.kept none_failed c.requires.kept;
    }

pub returns-in_err-restart_at-clause-kept : goal.returns-in_err-restart_at-clause-kept
returns-in_err-restart_at-clause-kept g c =
    let k = g.K.Keeper in
    let means = meaning g.M.S.Sealer.replica g.M.S.Sealer.gives in
    let plan = c.args.plan.now in
    let ground = ground (meant k) means (g.C.Checker.meaning c.args.checker.now) plan (g.M.SealMaker.gives c.args.maker.now) in
    let from = c.args.from in
    let turns = c.network.inside.turns in
    let i = c.loop-restart.restart-index in
    record {
      go = λ least kept.
          let stop = (c.in_err-restart_at.ensures.kept (starts_amid plan.restarts from turns i)).go least (c.loop-restart.invariant.kept least kept) in
          search rules;
    }

pub loop-restart-preserved : goal.loop-restart-preserved
loop-restart-preserved g c =
    let k = g.K.Keeper in
    let means = meaning g.M.S.Sealer.replica g.M.S.Sealer.gives in
    let plan = c.args.plan.now in
    let ground = ground (meant k) means (g.C.Checker.meaning c.args.checker.now) plan (g.M.SealMaker.gives c.args.maker.now) in
    let from = c.args.from in
    let turns = c.network.inside.turns in
    let i = c.loop-restart.restart-index in
    let items = c.as_slice-restart-items.result.now in
    let none : Restart = record { replica = 0; turn = 0 } in
    let restart = get_or items i none in
    let here : restart ≡ get_or plan.restarts i none = ap (λ (xs : List Restart). get_or xs i none) c.as_slice-restart-items.ensures in
    let below : i < length plan.restarts = (let size = ap length c.as_slice-restart-items.ensures in omega (arith, size, c.loop-restart-test.true)) in
    let now = starts_amid plan.restarts from turns i in
    let next = starts_amid plan.restarts from turns (i + 1) in
    elim c.if-is_due.branch [
      | then-is_due+in_ok-restart_at w ↦
          let due : is_due from turns restart ≡ true = sym c.is_due.ensures ∙ w.if-is_due.true in
          record {
            turns = c.loop-restart.invariant.turns;
            world = ap (world_of means) w.network-is ∙ w.in_ok-restart_at.ensures.world ∙ c.loop-restart.invariant.world;
            kept = λ least kept.
                subst (λ (ks : List (Keeping _)). AreStarted ground next least ks c.if-is_due.network) (sym w.keepers-is)
                (subst (λ (n : Net _). AreStarted ground next least w.restart_at.new.keepers n) (sym w.network-is)
                (as_often ground (once_more restart.replica now) next least w.restart_at.new.keepers w.restart_at.new.network
                (amid_due plan.restarts from turns i none restart here below due)
                ((w.in_ok-restart_at.ensures.kept now).go least (c.loop-restart.invariant.kept least kept))));
          }
      | else-is_due w ↦
          let not_due : is_due from turns restart ≡ false = sym c.is_due.ensures ∙ w.if-is_due.false in
          record {
            turns = c.loop-restart.invariant.turns;
            world = ap (world_of means) w.network-is ∙ c.loop-restart.invariant.world;
            kept = λ least kept.
                subst (λ (ks : List (Keeping _)). AreStarted ground next least ks c.if-is_due.network) (sym w.keepers-is)
                (subst (λ (n : Net _). AreStarted ground next least c.loop-restart.keepers n) (sym w.network-is)
                (as_often ground now next least c.loop-restart.keepers c.loop-restart.network
                (amid_not plan.restarts from turns i none restart here below not_due)
                (c.loop-restart.invariant.kept least kept)));
          }
    ]

pub returns-clause-kept : goal.returns-clause-kept
returns-clause-kept g c =
    let k = g.K.Keeper in
    let means = meaning g.M.S.Sealer.replica g.M.S.Sealer.gives in
    let plan = c.args.plan.now in
    let ground = ground (meant k) means (g.C.Checker.meaning c.args.checker.now) plan (g.M.SealMaker.gives c.args.maker.now) in
    let from = c.args.from in
    let turns = c.network.inside.turns in
    let i = c.loop-restart.restart-index in
    let all : i ≡ length plan.restarts = (let size = ap length c.as_slice-restart-items.ensures in omega (arith, size)) in
    let same = c.loop-restart.invariant.turns in
    let near : from ≤ turns + 1 = omega (arith, same, c.requires.near) in
    record {
      go = λ least kept.
          as_often ground (starts_amid plan.restarts from turns i)
          (starts_before plan.restarts (c.args.network.now.turns + 1)) least c.loop-restart.keepers c.loop-restart.network
          (λ at. amid_all plan.restarts from turns i near all at ∙ ap (λ (t : ℕ). starts_before plan.restarts (t + 1) at) same)
          (c.loop-restart.invariant.kept least kept);
    }
