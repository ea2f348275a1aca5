-- What the keepers hold once a run has ended.
use Rattle.std.proofs.Common.{◌≡◌, ℕ, List, map, ap, refl, sym, subst, ◌∙◌}
use Rattle.std.proofs.lemmas.List.{length-map}
use Rattle.plan_text.specs.declared.plan.Plan.{Plan}
use Rattle.run_record.specs.declared.record.Journal.{Journal}
use Rattle.run_record.specs.declared.record.RunRecord.{RunRecord}
use Rattle.replica_seat.specs.Seats.{replica_of}
use Rattle.replica_seat.specs.Showing.{journal_of}
use Rattle.replay_run.specs.Play.{record_of}
use Rattle.replay_run.specs.World.{Net, World, world_of}
use Rattle.replay_run.specs.declared.keepers.Keeping.{Keeping}
use Rattle.restart_run.proofs.KeeperStart.{map_at}
use Rattle.restart_run.specs.Counts.{starts_by}
use Rattle.restart_run.specs.Logged.{AreLogged, IsLogged}
use Rattle.restart_run.specs.Started.{AreStarted, Ground}

record_turns : (plan : Plan) (w : World) → (record_of plan w).turns ≡ w.turns
unfolding record_of
record_turns plan w = refl

record_journals : (plan : Plan) (w : World) → (record_of plan w).journals ≡ map journal_of w.replicas
unfolding record_of
record_journals plan w = refl

logs_hold : {K S : Type 0} (g : Ground K S) (turns : ℕ) (least : ℕ → ℕ) (keepers : List (Keeping K)) (net : Net S)
    → AreStarted g (starts_by g.plan.restarts turns) least keepers net
    → AreLogged g.keeps g.plan turns (map (λ k. k.keeper) keepers) (map journal_of (map (replica_of g.means) net.seats))
logs_hold {K} g turns least keepers net kept = record {
  count = length-map keepers (λ (k : Keeping K). k.keeper) ∙ kept.count ∙ sym (length-map (map (replica_of g.means) net.seats) journal_of);
  each = λ at keeper journal has_keeper has_journal honest.
      let k = map_at (λ (x : Keeping K). x.keeper) keepers at keeper has_keeper in
      let r = map_at journal_of (map (replica_of g.means) net.seats) at journal has_journal in
      let held = ((kept.each at k.0 r.0 k.1 r.1).honest honest).1 in
      subst (λ (x : K). IsLogged g.keeps g.plan turns at x journal) (sym k.2)
      (subst (IsLogged g.keeps g.plan turns at k.0.keeper) (sym r.2) (record { log = held.log; openings = held.starts }));
}

-- they hold what the record shows of the journals
pub record_logged : {K S : Type 0} (g : Ground K S) (least : ℕ → ℕ) (keepers : List (Keeping K)) (net : Net S) (run : RunRecord) (released : List K)
    → run ≡ record_of g.plan (world_of g.means net) → released ≡ map (λ k. k.keeper) keepers
    → AreStarted g (starts_by g.plan.restarts net.turns) least keepers net
    → AreLogged g.keeps g.plan run.turns released run.journals
record_logged {K} g least keepers net run released shown are kept =
    let turns : run.turns ≡ net.turns = ap (λ (r : RunRecord). r.turns) shown ∙ record_turns g.plan (world_of g.means net) in
    let journals : run.journals ≡ map journal_of (map (replica_of g.means) net.seats) =
    ap (λ (r : RunRecord). r.journals) shown ∙ record_journals g.plan (world_of g.means net) in
    subst (λ (t : ℕ). AreLogged g.keeps g.plan t released run.journals) (sym turns)
    (subst (λ (ks : List K). AreLogged g.keeps g.plan net.turns ks run.journals) (sym are)
    (subst (λ (js : List Journal). AreLogged g.keeps g.plan net.turns (map (λ k. k.keeper) keepers) js) (sym journals)
    (logs_hold g net.turns least keepers net kept)))
