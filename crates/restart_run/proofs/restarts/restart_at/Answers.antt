use Rattle.std.proofs.Common.{◌≡◌, ℕ, List, map, ap, sym, ◌∙◌, arith, rules}
use Rattle.replica_seat.specs.Seats.{Replica, meaning, replica_of}
use Rattle.replay_run.specs.Kept.{meant}
use Rattle.replay_run.specs.World.{Net, world_of}
use Rattle.replay_run.proofs.LoggedEvents.{event_stops, found_too}
use Rattle.restart_run.proofs.OneRestart.{reseated_stays, restart_kept}
use Rattle.restart_run.specs.Started.{ground, lifetimes_of, none_failed}
use Rattle.restart_run.proofs.restarts.restart_at.Given.{Over}
use Rattle.restart_run.proofs.restarts.restart_at.Goals.{After-reseat}
use Rattle.restart_run.proofs.restarts.restart_at.Goals as goal

pub reopen_at-requires-clause-countable : goal.reopen_at-requires-clause-countable
reopen_at-requires-clause-countable g c κs lifetimes x here =
    let k = g.K.Keeper in
    let s = g.M.S.Sealer in
    let means = meaning s.replica s.gives in
    let plan = c.args.plan.now in
    let ground = ground (meant k) means (g.C.Checker.meaning c.args.checker.now) plan (g.M.SealMaker.gives c.args.maker.now) in
    let under = c.requires.kept in
    let old = c.args.keepers.now in
    let before = c.args.network.now in
    let at = c.args.replica in
    let r = found_too old (map (replica_of means) before.seats) at x under.kept.count here in
    let started = ((under.kept.each at x r.0 here r.1).honest c.requires.honest).1.starts in
    omega (arith, started, under.few at)

pub returns-in_err-node-clause-kept : goal.returns-in_err-node-clause-kept
returns-in_err-node-clause-kept g c starts =
    let k = g.K.Keeper in
    let s = g.M.S.Sealer in
    let means = meaning s.replica s.gives in
    let plan = c.args.plan.now in
    let ground = ground (meant k) means (g.C.Checker.meaning c.args.checker.now) plan (g.M.SealMaker.gives c.args.maker.now) in
    let under = c.requires.kept in
    let old = c.args.keepers.now in
    let before = c.args.network.now in
    let at = c.args.replica in
    record {
      go = λ least kept.
          let stop = (event_stops (meant k) means ground.fits plan old c.reopen_at.new.keepers before at c.in_err-node.field-0.0
          c.in_err-node.ensures.fault).cause (lifetimes_of ground starts least) kept in
          search rules;
    }

-- the sealer that the maker grows again seals as the one before it
same_seals : (g : Over) (c : After-reseat g) → g.M.S.Sealer.gives c.in_ok-sealer.sealer
    ≡ g.M.SealMaker.gives c.args.maker.now c.args.plan.now.seed c.args.plan.now.height c.args.plan.now.setting.n c.args.replica
same_seals g c =
    let plan = c.args.plan.now in
    c.in_ok-sealer.ensures.gives ∙ ap (λ (n : ℕ). g.M.SealMaker.gives c.args.maker.now plan.seed plan.height n c.args.replica) c.n.ensures.value

-- no replica is another: the one that was opened again is what it was
seats_stay : (g : Over) (c : After-reseat g) → map (replica_of (meaning g.M.S.Sealer.replica g.M.S.Sealer.gives)) c.reseat.new.self.seats
    ≡ map (replica_of (meaning g.M.S.Sealer.replica g.M.S.Sealer.gives)) c.args.network.now.seats
seats_stay g c =
    let k = g.K.Keeper in
    let means = meaning g.M.S.Sealer.replica g.M.S.Sealer.gives in
    let ground = ground (meant k) means (g.C.Checker.meaning c.args.checker.now) c.args.plan.now (g.M.SealMaker.gives c.args.maker.now) in
    let under = c.requires.kept in
    let before = c.args.network.now in
    let k_here = c.in_ok-node.ensures.here in
    let r = found_too c.args.keepers.now (map (replica_of means) before.seats) c.args.replica k_here.it under.kept.count k_here.here in
    let was = ((under.kept.each c.args.replica k_here.it r.0 k_here.here r.1).honest c.requires.honest).1 in
    let re = c.in_ok-node.ensures.again (lifetimes_of ground under.starts none_failed) r.0 k_here.it k_here.here was
    (same_seals g c) c.in_ok-sealer.ensures.room in
    ap (λ (n : Net _). map (replica_of means) n.seats) c.reseat.ensures
    ∙ reseated_stays means before.seats c.args.replica c.in_ok-node.node r.0 r.1 (c.in_ok-node.ensures.replica ∙ sym was.number)
    (c.in_ok-node.ensures.gives ∙ same_seals g c ∙ sym was.gives) re.again.state

pub returns-clause-world : goal.returns-clause-world
returns-clause-world g c =
    let means = meaning g.M.S.Sealer.replica g.M.S.Sealer.gives in
    let stays = seats_stay g (goal.at.returns-clause-world g c).After-reseat in
    ap (world_of means) c.reseat.ensures ∙ ap (λ (replicas : List Replica). record (world_of means c.args.network.now) { replicas = replicas })
    (ap (λ (n : Net _). map (replica_of means) n.seats) (sym c.reseat.ensures) ∙ stays)

pub returns-clause-kept : goal.returns-clause-kept
returns-clause-kept g c starts =
    let k = g.K.Keeper in
    let means = meaning g.M.S.Sealer.replica g.M.S.Sealer.gives in
    let ground = ground (meant k) means (g.C.Checker.meaning c.args.checker.now) c.args.plan.now (g.M.SealMaker.gives c.args.maker.now) in
    let under = c.requires.kept in
    let old = c.args.keepers.now in
    let before = c.args.network.now in
    let at = c.args.replica in
    let k_here = c.in_ok-node.ensures.here in
    let r = found_too old (map (replica_of means) before.seats) at k_here.it under.kept.count k_here.here in
    let d = (goal.at.returns-clause-kept g c).After-reseat in
    record {
      go = λ least kept.
          restart_kept ground starts least old c.reopen_at.new.keepers before c.reseat.new.self at k_here.it r.0 c.in_ok-node.node.state k_here.here r.1
          (c.in_ok-node.ensures.again (lifetimes_of ground starts least) r.0 k_here.it k_here.here
          ((kept.each at k_here.it r.0 k_here.here r.1).honest c.requires.honest).1 (same_seals g d)
          c.in_ok-sealer.ensures.room)
          (seats_stay g d) kept;
    }
