-- Operations at one seat are operations at its replica.
use Rattle.std.proofs.Common.{◌≡◌, ◌≢◌, ℕ, zero, suc, ◌≤◌, ◌==◌, length, List, [], ◌∷◌, Option, Some, None, map, refl, ap, sym, ◌∙◌, arith, inl, inr}
use Rattle.std.specs.Prelude.{slice_get, slice_set, not}
use Rattle.std.proofs.lemmas.Bool.{cases_Bool}
use Rattle.std.proofs.lemmas.Bool.Decides.{nat_tests}
use Rattle.std.proofs.lemmas.Option.{slice_get-map, slice_get_past}
use Rattle.std.proofs.lemmas.List.{map-set}
use Rattle.seq_base.specs.declared.tx.Tx.{Tx}
use Rattle.plan_text.specs.declared.plan.Plan.{Plan}
use Rattle.node_core.specs.State.{NodeValue}
use Rattle.node_core.specs.Rows.{Check}
use Rattle.node_core.specs.declared.event.Event.{Event}
use Rattle.replica_seat.specs.Feed.{after_giving, arrived}
use Rattle.replica_seat.specs.Seats.{Meaning, Seated, holds_due, replica_of}
use Rattle.replay_run.specs.World.{Net, World, reseated, waits_at, world_of}
use Rattle.replica_seat.specs.Acting.{after_event}
use Rattle.replay_run.specs.Acting.{event_at}
use Rattle.replay_run.specs.Step.{arrived_at, holds_due_at, taken_at}
use Rattle.replica_seat.specs.declared.seat.Envelope.{Envelope}

module _ {S : Type 0} (m : Meaning S) where
  here_too : (seats : List (Seated S)) (at : ℕ) (seat : Seated S) → slice_get seats at ≡ Some seat
      → slice_get (map (replica_of m) seats) at ≡ Some (replica_of m seat)
  here_too seats at seat here = rw (slice_get-map, here) refl

  gone_too : (seats : List (Seated S)) (at : ℕ) → slice_get seats at ≡ None → slice_get (map (replica_of m) seats) at ≡ None
  gone_too seats at gone = rw (slice_get-map, gone) refl

  -- an event of one seat is one of its replica
  pub reported_one : (fits : Check) (plan : Plan) (seats : List (Seated S)) (at : ℕ) (event : Event) (seat after : Seated S) (queue left : List Envelope)
      → slice_get seats at ≡ Some seat
      → after_event fits plan at (replica_of m seat) queue event ≡ record { replica = replica_of m after; queue = left }
      → (w : World) → w.replicas ≡ map (replica_of m) seats → w.queue ≡ queue
      → event_at fits plan w at event ≡ record w { replicas = map (replica_of m) (slice_set seats at after); queue = left }
  unfolding event_at
  reported_one fits plan seats at event seat after queue left here reported w same same_queue =
      let found : slice_get w.replicas at ≡ Some (replica_of m seat) = ap (λ rs. slice_get rs at) same ∙ here_too seats at seat here in
      let there : slice_set w.replicas at (replica_of m after) ≡ map (replica_of m) (slice_set seats at after) =
      ap (λ rs. slice_set rs at (replica_of m after)) same ∙ sym (map-set (replica_of m) seats at after) in
      let one : after_event fits plan at (replica_of m seat) w.queue event ≡ record { replica = replica_of m after; queue = left } =
      ap (λ q. after_event fits plan at (replica_of m seat) q event) same_queue ∙ reported in
      rw (found, one, there) refl

  pub reported_none : (fits : Check) (plan : Plan) (seats : List (Seated S)) (at : ℕ) (event : Event) (queue : List Envelope)
      → length seats ≤ at → (w : World) → w.replicas ≡ map (replica_of m) seats → w.queue ≡ queue
      → event_at fits plan w at event ≡ record w { replicas = map (replica_of m) seats; queue = queue }
  unfolding event_at
  reported_none fits plan seats at event queue past w same same_queue =
      let found : slice_get w.replicas at ≡ None = ap (λ rs. slice_get rs at) same ∙ gone_too seats at (slice_get_past seats at past) in
      rw (found, ← same, ← same_queue) refl

  -- what arrived is taken at one seat
  pub taken_one : (seats : List (Seated S)) (at turns : ℕ) (seat after : Seated S) → slice_get seats at ≡ Some seat
      → after ≡ record seat { feed = after_giving turns seat.feed }
      → (w : World) → w.replicas ≡ map (replica_of m) seats → w.turns ≡ turns
      → taken_at w at ≡ record w { replicas = map (replica_of m) (slice_set seats at after) }
  unfolding taken_at
  taken_one seats at turns seat after here is w same same_turns =
      let found : slice_get w.replicas at ≡ Some (replica_of m seat) = ap (λ rs. slice_get rs at) same ∙ here_too seats at seat here in
      let there : slice_set w.replicas at (replica_of m after) ≡ map (replica_of m) (slice_set seats at after) =
      ap (λ rs. slice_set rs at (replica_of m after)) same ∙ sym (map-set (replica_of m) seats at after) in
      let one : replica_of m after ≡ record (replica_of m seat) { feed = after_giving w.turns seat.feed } = rw (is, same_turns) refl in
      rw (found, ← one, there) refl

  pub taken_none : (seats : List (Seated S)) (at : ℕ) → length seats ≤ at → (w : World) → w.replicas ≡ map (replica_of m) seats
      → taken_at w at ≡ record w { replicas = map (replica_of m) seats }
  unfolding taken_at
  taken_none seats at past w same =
      let found : slice_get w.replicas at ≡ None = ap (λ rs. slice_get rs at) same ∙ gone_too seats at (slice_get_past seats at past) in
      rw (found, ← same) refl

  pub arrived_one : (seats : List (Seated S)) (at turns : ℕ) (seat : Seated S) → slice_get seats at ≡ Some seat
      → (w : World) → w.replicas ≡ map (replica_of m) seats → w.turns ≡ turns → arrived turns seat.feed ≡ arrived_at w at
  unfolding arrived_at
  arrived_one seats at turns seat here w same same_turns =
      let found : slice_get w.replicas at ≡ Some (replica_of m seat) = ap (λ rs. slice_get rs at) same ∙ here_too seats at seat here in
      rw (found, same_turns) refl

  pub arrived_none : (seats : List (Seated S)) (at : ℕ) → length seats ≤ at → (w : World) → w.replicas ≡ map (replica_of m) seats → [] ≡ arrived_at w at
  unfolding arrived_at
  arrived_none seats at past w same =
      let found : slice_get w.replicas at ≡ None = ap (λ rs. slice_get rs at) same ∙ gone_too seats at (slice_get_past seats at past) in
      rw found refl

  -- a seat waits exactly where its replica does not hold what is due
  pub waits_of_seat : (net : Net S) (at : ℕ) → waits_at net.due net.seats at ≡ not (holds_due_at (world_of m net) at)
  waits_of_seat net at = of_option (slice_get net.seats at) refl
    where
      of_option : (found : Option (Seated S)) → slice_get net.seats at ≡ found → waits_at net.due net.seats at ≡ not (holds_due_at (world_of m net) at)
      of_option None gone = rw (gone, gone_too net.seats at gone) refl
      of_option (Some seat) here = rw (here, here_too net.seats at seat here) refl

-- another place is as it was
pub set_elsewhere : {X : Type 0} (xs : List X) (i j : ℕ) (y : X) → j ≢ i → slice_get (slice_set xs i y) j ≡ slice_get xs j
set_elsewhere [] i j y other = refl
set_elsewhere (x ∷ xs) zero zero y other = absurd (other refl)
set_elsewhere (x ∷ xs) zero (suc j) y other = refl
set_elsewhere (x ∷ xs) (suc i) zero y other = refl
set_elsewhere (x ∷ xs) (suc i) (suc j) y other = set_elsewhere xs i j y (λ same. other (ap suc same))

pub set_here : {X : Type 0} (xs : List X) (i : ℕ) (x y : X) → slice_get xs i ≡ Some x → slice_get (slice_set xs i y) i ≡ Some y
set_here [] i x y here = cc
set_here (z ∷ xs) zero x y here = refl
set_here (z ∷ xs) (suc i) x y here = set_here xs i x y here

-- who waits still does, where another had an event
pub waits_elsewhere : {S : Type 0} (due : List Tx) (seats : List (Seated S)) (at waiting : ℕ) (after : Seated S) → waiting ≢ at
    → waits_at due (slice_set seats at after) waiting ≡ waits_at due seats waiting
waits_elsewhere due seats at waiting after other = rw (set_elsewhere seats at waiting after other) refl

-- what arrived may be taken
pub waits_still : {S : Type 0} (due : List Tx) (seats : List (Seated S)) (at waiting : ℕ) (seat after : Seated S)
    → slice_get seats at ≡ Some seat → after.node ≡ seat.node
    → waits_at due (slice_set seats at after) waiting ≡ waits_at due seats waiting
waits_still due seats at waiting seat after here same =
    elim (cases_Bool (waiting == at)) [
      | inl holds_so ↦
          let is : waiting ≡ at = grind (arith, nat_tests) in
          rw (is, set_here seats at seat after here, here) (ap (λ (n : NodeValue _). not (holds_due due n.state.known)) same)
      | inr fails_so ↦ waits_elsewhere due seats at waiting after (λ is. grind (arith, nat_tests, is))
    ]

-- a seat gets another node
pub reseat_one : {S : Type 0} (seats : List (Seated S)) (at : ℕ) (seat after : Seated S) (node : NodeValue S)
    → slice_get seats at ≡ Some seat → after ≡ record seat { node = node }
    → slice_set seats at after ≡ reseated seats at node
unfolding reseated
reseat_one seats at seat after node here is = rw (here, is) refl

pub reseat_none : {S : Type 0} (seats : List (Seated S)) (at : ℕ) (node : NodeValue S) → length seats ≤ at → seats ≡ reseated seats at node
unfolding reseated
reseat_none seats at node past = rw (slice_get_past seats at past) refl
