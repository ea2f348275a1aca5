-- A restart of a replica leaves the run unchanged.
use Rattle.std.proofs.Common.{◌≡◌, ◌≢◌, ℕ, length, List, Option, Some, None, map, refl, ap, sym, subst, ◌∙◌, arith}
use Rattle.std.specs.Prelude.{Result, Ok, Err, slice_get, slice_set}
use Rattle.std.proofs.lemmas.Bool.Decides.{nat_tests}
use Rattle.std.proofs.lemmas.List.{length-set, map-set}
use Rattle.std.proofs.lemmas.Option.{same_Some, slice_get-map}
use Rattle.node_core.specs.State.{NodeValue, State}
use Rattle.replica_seat.specs.Seats.{Meaning, Replica, Seated, replica_of}
use Rattle.replay_run.specs.Kept.{AreKept, GoesKept, IsKeptBy}
use Rattle.replay_run.specs.World.{Net, reseated, reseated_for}
use Rattle.replay_run.specs.declared.keepers.Keeping.{Keeping}
use Rattle.replay_run.specs.declared.keepers.StepFault.{StepFault}
use Rattle.replay_run.proofs.Amongs.{set_elsewhere, set_here}
use Rattle.replay_run.proofs.LoggedEvents.{exchanged}
use Rattle.restart_run.proofs.Places.{set_same}
use Rattle.restart_run.specs.Started.{AreStarted, AreStartedOr, Ground, IsReopened, lifetimes_of, once_more}

-- a seat whose node is exchanged for one that stands where it stood shows the same replica
reseated_same : {S : Type 0} (m : Meaning S) (seats : List (Seated S)) (at : ℕ) (node : NodeValue S) (r : Replica) (found : Option (Seated S))
    → slice_get seats at ≡ found
    → slice_get (map (replica_of m) seats) at ≡ Some r → m.number node.sealer ≡ r.number → m.gives node.sealer ≡ r.gives → node.state ≡ r.state
    → map (replica_of m) (reseated_for seats at node found) ≡ map (replica_of m) seats
reseated_same m seats at node r None is here number gives state = refl
reseated_same {S} m seats at node r (Some seat) is here number gives state =
    let there : slice_get (map (replica_of m) seats) at ≡ Some (replica_of m seat) = rw (slice_get-map, is) refl in
    let same : replica_of m seat ≡ r = same_Some (replica_of m seat) r (sym there ∙ here) in
    let one : replica_of m (record seat { node = node }) ≡ replica_of m seat =
    rw (number ∙ sym (ap (λ (x : Replica). x.number) same), gives ∙ sym (ap (λ (x : Replica). x.gives) same), state ∙ sym (ap (λ (x : Replica). x.state) same))
    refl in
    map-set (replica_of m) seats at (record seat { node = node })
    ∙ ap (slice_set (map (replica_of m) seats) at) one
    ∙ set_same (map (replica_of m) seats) at (replica_of m seat) there

pub reseated_stays : {S : Type 0} (m : Meaning S) (seats : List (Seated S)) (at : ℕ) (node : NodeValue S) (r : Replica)
    → slice_get (map (replica_of m) seats) at ≡ Some r → m.number node.sealer ≡ r.number → m.gives node.sealer ≡ r.gives → node.state ≡ r.state
    → map (replica_of m) (reseated seats at node) ≡ map (replica_of m) seats
unfolding reseated
reseated_stays m seats at node r here number gives state = reseated_same m seats at node r (slice_get seats at) refl here number gives state

module _ {K S : Type 0} (g : Ground K S) where
  -- of one replica only how often that one was started counts
  other_starts : (one two least : ℕ → ℕ) (p : ℕ) (x : Keeping K) (s : Replica) → one p ≡ two p
      → IsKeptBy g.keeps g.fits g.plan (lifetimes_of g one least) p x s → IsKeptBy g.keeps g.fits g.plan (lifetimes_of g two least) p x s
  other_starts one two least p x s same kept = record {
    faults = kept.faults;
    honest = λ h.
        let k = (kept.honest h).1 in (
          (kept.honest h).0,
          record { number = k.number; gives = k.gives; log = k.log; durable_size = k.durable_size; each = k.each; state = k.state; starts = k.starts ∙ same },
          (kept.honest h).2,
        );
  }

  pub as_often : (one two least : ℕ → ℕ) (keepers : List (Keeping K)) (net : Net S) → ((at : ℕ) → one at ≡ two at)
      → AreStarted g one least keepers net → AreStarted g two least keepers net
  as_often one two least keepers net same kept = record {
    count = kept.count;
    each = λ p x s has_x has_s. other_starts one two least p x s (same p) (kept.each p x s has_x has_s);
  }

  -- a step of the run changes nothing of that
  pub step_starts : {X : Type 0} (starts least : ℕ → ℕ) (old : List (Keeping K)) (before : Net S) (result : Result X StepFault)
      (new : List (Keeping K)) (after : Net S)
      → GoesKept g.keeps g.means g.fits g.plan old before result new after → AreStarted g starts least old before → AreStartedOr g starts least result new after
  step_starts starts least old before (Ok x) new after goes kept = goes.stays (lifetimes_of g starts least) kept
  step_starts starts least old before (Err fault) new after goes kept = goes.cause (lifetimes_of g starts least) kept

  elsewhere : (at p : ℕ) (starts : ℕ → ℕ) → p ≢ at → starts p ≡ once_more at starts p
  elsewhere at p starts other = grind (arith, nat_tests, other)

  pub restart_kept : (starts least : ℕ → ℕ) (old new : List (Keeping K)) (before after : Net S) (at : ℕ) (k : Keeping K) (r : Replica) (now : State)
      → slice_get old at ≡ Some k → slice_get (map (replica_of g.means) before.seats) at ≡ Some r
      → IsReopened g.keeps g.fits g.plan (lifetimes_of g starts least) at r now k old new
      → map (replica_of g.means) after.seats ≡ map (replica_of g.means) before.seats
      → AreStarted g starts least old before → AreStarted g (once_more at starts) least new after
  restart_kept starts least old new before after at k r now k_here r_here re same kept =
      let lifetimes = lifetimes_of g (once_more at starts) least in
      let replicas = map (replica_of g.means) before.seats in
      let was = kept.each at k r k_here r_here in
      let here : IsKeptBy g.keeps g.fits g.plan lifetimes at re.after r = record {
        faults = (let a = was.faults in let b = re.later in omega arith);
        honest = λ h. (re.on, re.again.kept, re.again.moved);
      } in
      let put : (p : ℕ) → slice_get new p ≡ slice_get (slice_set old at re.after) p = λ p. ap (λ (ks : List (Keeping K)). slice_get ks p) re.put in
      subst (AreKept g.keeps g.fits g.plan lifetimes new) (sym same) (record {
        count = ap length re.put ∙ length-set old at re.after ∙ kept.count;
        each = exchanged (IsKeptBy g.keeps g.fits g.plan lifetimes) old new replicas replicas at
            (λ p other. put p ∙ set_elsewhere old at p re.after other) (λ p other. refl)
            (λ x s has_x has_s.
            subst (λ (y : Keeping K). IsKeptBy g.keeps g.fits g.plan lifetimes at y s)
            (same_Some re.after x (sym (set_here old at k re.after k_here) ∙ sym (put at) ∙ has_x))
            (subst (IsKeptBy g.keeps g.fits g.plan lifetimes at re.after) (same_Some r s (sym r_here ∙ has_s)) here))
            (λ p other x s has_x has_s. other_starts starts (once_more at starts) least p x s (elsewhere at p starts other) (kept.each p x s has_x has_s));
      })
