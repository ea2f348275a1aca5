-- What is logged of the replicas of a run stays logged, event by event.
use Rattle.std.proofs.Common.{◌≡◌, ◌≢◌, ℕ, zero, suc, ◌+◌, ◌==◌, ◌<◌, ◌≤◌, length, List, [], ◌∷◌, ◌++◌, Bool, Option, Some, None, get_or, map, refl, ap, append_assoc, sym, subst, ◌∙◌, arith, inl, inr, if◌then◌else◌}
use Rattle.std.specs.Prelude.{Result, Ok, Err, IfErr, All, slice_get, slice_set}
use Rattle.std.proofs.lemmas.Option.{none-some, same_Some, slice_get-get_or}
use Rattle.std.proofs.lemmas.Bool.{cases_Bool}
use Rattle.std.proofs.lemmas.Bool.Decides.{nat_tests}
use Rattle.std.proofs.lemmas.List.{length-set, map-append}
use Rattle.std.proofs.lemmas.List.Elements.{All-append}
use Rattle.plan_text.specs.declared.plan.Plan.{Plan}
use Rattle.node_core.specs.Rows.{Check}
use Rattle.node_core.specs.Runs.{opening_state, state_after}
use Rattle.node_core.specs.State.{State}
use Rattle.node_core.specs.Reported.{Gives}
use Rattle.node_core.specs.Turn.{turn_of}
use Rattle.node_core.specs.declared.event.Event.{Event}
use Rattle.node_core.specs.declared.entry.Entry.{Entry}
use Rattle.durable_node.specs.Check.{header_digest, next_digest}
use Rattle.durable_node.specs.Log.{CanBeKept, LogOf, body_of, log_digest, record_of}
use Rattle.durable_node.proofs.Lifetimes.{state-append}
use Rattle.durable_node.proofs.Logs.{All-one, digest_one, log_append}
use Rattle.replica_seat.specs.Acting.{After, acted, after_acted, after_event, deeds_acted, node_acted}
use Rattle.replica_seat.specs.Feed.{after_giving}
use Rattle.replica_seat.specs.Seats.{Meaning, Replica, replica_of}
use Rattle.replica_seat.specs.declared.seat.Envelope.{Envelope}
use Rattle.replay_run.proofs.Amongs.{set_elsewhere, set_here}
use Rattle.replay_run.specs.Acting.{event_at, event_for}
use Rattle.replay_run.specs.Kept.{AreKept, GoesKept, HasFailed, HasKept, HasKeptAt, HasKeptOne, HasLogged, HoldsLogOf, IsKeepFault, IsKeptBy, IsLogFault, IsStop, Incarnations, Meant, RoseFrom, StaysKept, events_of, header_at}
use Rattle.replay_run.specs.Step.{taken_at, taken_for}
use Rattle.replay_run.specs.World.{Net, World, world_of}
use Rattle.replay_run.specs.declared.keepers.Keeping.{Keeping}
use Rattle.replay_run.specs.declared.keepers.StepFault.{StepFault}
use Rattle.replay_run.specs.declared.keepers.StepFault.TheVariants.{Keep, NoMemory}

-- ---- two lists side by side, changed at one place

pub exchanged : {X Y : Type 0} (P : ℕ → X → Y → Type 0) (xs xs2 : List X) (ys ys2 : List Y) (at : ℕ)
    → ((p : ℕ) → p ≢ at → slice_get xs2 p ≡ slice_get xs p) → ((p : ℕ) → p ≢ at → slice_get ys2 p ≡ slice_get ys p)
    → ((x : X) (y : Y) → slice_get xs2 at ≡ Some x → slice_get ys2 at ≡ Some y → P at x y)
    → ((p : ℕ) → p ≢ at → (x : X) (y : Y) → slice_get xs p ≡ Some x → slice_get ys p ≡ Some y → P p x y)
    → (p : ℕ) (x : X) (y : Y) → slice_get xs2 p ≡ Some x → slice_get ys2 p ≡ Some y → P p x y
exchanged P xs xs2 ys ys2 at xs_else ys_else here all p x y has_x has_y =
    elim (cases_Bool (p == at)) [
      | inl same ↦
          let is : p ≡ at = grind (arith, nat_tests) in
          let x_here : slice_get xs2 at ≡ Some x = ap (slice_get xs2) (sym is) ∙ has_x in
          let y_here : slice_get ys2 at ≡ Some y = ap (slice_get ys2) (sym is) ∙ has_y in
          subst (λ q. P q x y) (sym is) (here x y x_here y_here)
      | inr other ↦
          let apart : p ≢ at = λ is. grind (arith, nat_tests, is) in
          all p apart x y (sym (xs_else p apart) ∙ has_x) (sym (ys_else p apart) ∙ has_y)
    ]

-- of two lists of one length, what one has at a place the other has too
pub found_too : {X Y : Type 0} (xs : List X) (ys : List Y) (at : ℕ) (x : X) → length xs ≡ length ys → slice_get xs at ≡ Some x
    → (y : Y) × (slice_get ys at ≡ Some y)
found_too [] ys at x same has = cc
found_too (a ∷ xs) [] at x same has = absurd (omega arith)
found_too (a ∷ xs) (b ∷ ys) zero x same has = (b, refl)
found_too (a ∷ xs) (b ∷ ys) (suc at) x same has = found_too xs ys at x (omega arith) has

-- ---- the keeper at a place

module _ {K : Type 0} (m : Meant K) where
  pub kept_there : (event : Event) (at : ℕ) (value items : List (Keeping K)) (old after : Keeping K) → items ≡ value → at < length items
      → old ≡ get_or items at old
      → HasKeptOne m event old after → HasKept m event at value (slice_set items at after)
  kept_there event at value items old after same within is one =
      let here : slice_get value at ≡ Some old = ap (λ (xs : List (Keeping K)). slice_get xs at) (sym same)
      ∙ slice_get-get_or items at old within ∙ ap Some (sym is) in
      record {
        kept = subst (λ (f : Option (Keeping K)). HasKeptAt m event at value f (slice_set items at after)) (sym here)
            (after, one, ap (λ (xs : List (Keeping K)). slice_set xs at after) same);
      }

  pub fault_there : {X : Type 0} (at : ℕ) (value items : List (Keeping K)) (old after : Keeping K) → items ≡ value → at < length items
      → old ≡ get_or items at old
      → (result : Result X StepFault) → IfErr result (IsLogFault at (m.faults old.keeper) (m.faults after.keeper))
      → IfErr result (IsKeepFault m at value (slice_set items at after))
  fault_there at value items old after same within is (Ok x) h = tt
  fault_there at value items old after same within is (Err (Keep replica)) h =
      let there : slice_get items at ≡ Some old = slice_get-get_or items at old within ∙ ap Some (sym is) in
      let here : slice_get value at ≡ Some old = ap (λ (xs : List (Keeping K)). slice_get xs at) (sym same) ∙ there in (
        h.0,
        subst (λ (f : Option (Keeping K)). RoseFrom m f (slice_get (slice_set items at after) at)) (sym here)
            (after, set_here items at old after there, h.1),
      )
  fault_there at value items old after same within is (Err NoMemory) h = tt

-- ---- one replica

module _ {K : Type 0} (m : Meant K) (fits : Check) (plan : Plan) (l : Incarnations) where
  -- one entry more, whose event its keeper has logged
  log_more : (at : ℕ) (event : Event) (before : List ℕ) (k : K) (now : List ℕ) (after : K) (r s : Replica) (reported : Entry)
      → reported.event ≡ event → s.number ≡ r.number → s.gives ≡ r.gives
      → s.journal ≡ r.journal ++ reported ∷ [] → s.state ≡ state_after fits r.gives r.state (event ∷ [])
      → HasLogged m event before k now after → HoldsLogOf m fits plan l at k r → before ≡ log_digest (header_at plan at) (events_of r.journal)
      → HoldsLogOf m fits plan l at after s × (now ≡ log_digest (header_at plan at) (events_of s.journal))
  log_more at event digest k now after r s reported is_event number gives journal state logged kept here =
      let opening = opening_state plan.setting plan.views at l.capacity in
      let before = events_of r.journal in
      let header = header_at plan at in
      let events : events_of s.journal ≡ before ++ event ∷ [] =
      ap events_of journal ∙ map-append (λ (e : Entry). e.event) r.journal (reported ∷ []) ∙ ap (λ (e : Event). before ++ e ∷ []) is_event in
      let last : record_of digest event ≡ record_of (log_digest header before) event = ap (λ (d : List ℕ). record_of d event) here in (
        record {
          number = number ∙ kept.number;
          gives = gives ∙ kept.gives;
          log = logged.bytes ∙ ap (λ (b : List ℕ). b ++ record_of digest event) kept.log ∙ append_assoc header (LogOf header before) (record_of digest event)
              ∙ ap (λ (t : List ℕ). header ++ (LogOf header before ++ t)) last
              ∙ ap (λ (t : List ℕ). header ++ t) (sym (log_append header before event) ∙ ap (LogOf header) (sym events));
          durable_size = logged.durable_size;
          each = subst (All CanBeKept) (sym events) (All-append CanBeKept before (event ∷ []) kept.each (All-one event logged.can));
          state = state ∙ ap (λ (g : Gives). state_after fits g r.state (event ∷ [])) kept.gives
              ∙ ap (λ (s : State). state_after fits (l.gives at) s (event ∷ [])) kept.state
              ∙ sym (state-append fits (l.gives at) opening before (event ∷ [])) ∙ ap (state_after fits (l.gives at) opening) (sym events);
          starts = logged.openings ∙ kept.starts;
        },
        logged.moved ∙ ap (λ (d : List ℕ). next_digest d (body_of event)) here ∙ sym (digest_one (header_digest header) before event)
            ∙ ap (log_digest header) (sym events),
      )

  -- an event that was kept, and the replica's turn on it
  one_more : (at : ℕ) (event : Event) (k after : Keeping K) (r : Replica) (queue : List Envelope)
      → HasKeptOne m event k after → IsKeptBy m fits plan l at k r → IsKeptBy m fits plan l at after (after_event fits plan at r queue event).replica
  unfolding after_event
  one_more at event k after r queue one kept =
      let o = turn_of fits r.gives r.state event in
      let s = (after_acted at queue event (node_acted r o)).replica in
      record {
        faults = (let a = kept.faults in let b = one.later in omega arith);
        honest = λ is_honest.
            let same : acted fits plan at r event ≡ node_acted r o = ap (λ (b : Bool). if b then deeds_acted plan r o else node_acted r o) is_honest in
            let h = kept.honest is_honest in
            let more : HoldsLogOf m fits plan l at after.keeper s × (after.digest ≡ log_digest (header_at plan at) (events_of s.journal)) =
            log_more at event k.digest k.keeper after.digest after.keeper r s
            (record { event = event; turned = o.reported }) refl refl refl refl refl (one.logged h.0) h.1 h.2 in
            let both = subst (λ (a : After). HoldsLogOf m fits plan l at after.keeper a.replica
            × (after.digest ≡ log_digest (header_at plan at) (events_of a.replica.journal)))
            (sym (ap (after_acted at queue event) same)) more in
            (one.same ∙ h.0, both.0, both.1);
      }

  -- ---- all replicas

  kept_elsewhere : (event : Event) (at : ℕ) (old new : List (Keeping K)) (found : Option (Keeping K)) → HasKeptAt m event at old found new
      → (p : ℕ) → p ≢ at → slice_get new p ≡ slice_get old p
  kept_elsewhere event at old new None same p other = ap (λ (ks : List (Keeping K)). slice_get ks p) same
  kept_elsewhere event at old new (Some k) h p other = ap (λ (ks : List (Keeping K)). slice_get ks p) h.2 ∙ set_elsewhere old at p h.0 other

  kept_count : (event : Event) (at : ℕ) (old new : List (Keeping K)) (found : Option (Keeping K)) → HasKeptAt m event at old found new → length new ≡ length old
  kept_count event at old new None same = ap length same
  kept_count event at old new (Some k) h = ap length h.2 ∙ length-set old at h.0

  event_elsewhere : (w : World) (at : ℕ) (event : Event) (found : Option Replica) → (p : ℕ) → p ≢ at
      → slice_get (event_for fits plan w at event found).replicas p ≡ slice_get w.replicas p
  event_elsewhere w at event None p other = refl
  event_elsewhere w at event (Some r) p other = set_elsewhere w.replicas at p (after_event fits plan at r w.queue event).replica other

  event_count : (w : World) (at : ℕ) (event : Event) (found : Option Replica) → length (event_for fits plan w at event found).replicas ≡ length w.replicas
  event_count w at event None = refl
  event_count w at event (Some r) = length-set w.replicas at (after_event fits plan at r w.queue event).replica

  -- at the place of the event
  event_here : (w : World) (at : ℕ) (event : Event) (old new : List (Keeping K)) (k_found : Option (Keeping K)) (r_found : Option Replica)
      → slice_get old at ≡ k_found → slice_get w.replicas at ≡ r_found → HasKeptAt m event at old k_found new
      → ((k : Keeping K) (r : Replica) → slice_get old at ≡ Some k → slice_get w.replicas at ≡ Some r → IsKeptBy m fits plan l at k r)
      → (x : Keeping K) (s : Replica) → slice_get new at ≡ Some x → slice_get (event_for fits plan w at event r_found).replicas at ≡ Some s
      → IsKeptBy m fits plan l at x s
  event_here w at event old new None r_found k_is r_is same all x s has_x has_s =
      absurd (none-some x (sym k_is ∙ ap (λ (ks : List (Keeping K)). slice_get ks at) (sym same) ∙ has_x))
  event_here w at event old new (Some k) None k_is r_is h all x s has_x has_s = absurd (none-some s (sym r_is ∙ has_s))
  event_here w at event old new (Some k) (Some r) k_is r_is h all x s has_x has_s =
      let after = after_event fits plan at r w.queue event in
      let x_is : h.0 ≡ x = same_Some h.0 x (sym (set_here old at k h.0 k_is) ∙ ap (λ (ks : List (Keeping K)). slice_get ks at) (sym h.2) ∙ has_x) in
      let s_is : after.replica ≡ s = same_Some after.replica s (sym (set_here w.replicas at r after.replica r_is) ∙ has_s) in
      subst (λ (y : Keeping K). IsKeptBy m fits plan l at y s) x_is
      (subst (λ (t : Replica). IsKeptBy m fits plan l at h.0 t) s_is
      (one_more at event k h.0 r w.queue h.1 (all k r k_is r_is)))

  pub event_kept : (w : World) (at : ℕ) (event : Event) (old new : List (Keeping K)) → HasKept m event at old new
      → AreKept m fits plan l old w.replicas → AreKept m fits plan l new (event_at fits plan w at event).replicas
  unfolding event_at
  event_kept w at event old new one kept =
      let found = slice_get w.replicas at in
      record {
        count = kept_count event at old new (slice_get old at) one.kept ∙ kept.count ∙ sym (event_count w at event found);
        each = exchanged (IsKeptBy m fits plan l) old new w.replicas (event_for fits plan w at event found).replicas at
            (kept_elsewhere event at old new (slice_get old at) one.kept) (event_elsewhere w at event found)
            (event_here w at event old new (slice_get old at) found refl refl one.kept (kept.each at)) (λ p other. kept.each p);
      }

  -- what arrived may be taken
  fed_stays : (at : ℕ) (k : Keeping K) (r : Replica) (turns : ℕ) → IsKeptBy m fits plan l at k r
      → IsKeptBy m fits plan l at k (record r { feed = after_giving turns r.feed })
  fed_stays at k r turns kept = record {
    faults = kept.faults;
    honest = λ is_honest.
        let h = kept.honest is_honest in (
          h.0,
          record {
            number = h.1.number;
            gives = h.1.gives;
            log = h.1.log;
            durable_size = h.1.durable_size;
            each = h.1.each;
            state = h.1.state;
            starts = h.1.starts;
          },
          h.2,
        );
  }

  taken_each : (w : World) (at : ℕ) (keepers : List (Keeping K)) (found : Option Replica) → slice_get w.replicas at ≡ found
      → AreKept m fits plan l keepers w.replicas → AreKept m fits plan l keepers (taken_for w at found).replicas
  taken_each w at keepers None r_is kept = kept
  taken_each w at keepers (Some r) r_is kept =
      let fed = record r { feed = after_giving w.turns r.feed } in
      record {
        count = kept.count ∙ sym (length-set w.replicas at fed);
        each = exchanged (IsKeptBy m fits plan l) keepers keepers w.replicas (slice_set w.replicas at fed) at (λ p other. refl)
            (λ p other. set_elsewhere w.replicas at p fed other)
            (λ k s has_k has_s. subst (λ (t : Replica). IsKeptBy m fits plan l at k t) (same_Some fed s (sym (set_here w.replicas at r fed r_is) ∙ has_s))
            (fed_stays at k r w.turns (kept.each at k r has_k r_is)))
            (λ p other. kept.each p);
      }

  pub taken_kept : (w : World) (at : ℕ) (keepers : List (Keeping K)) → AreKept m fits plan l keepers w.replicas
      → AreKept m fits plan l keepers (taken_at w at).replicas
  unfolding taken_at
  taken_kept w at keepers kept = taken_each w at keepers (slice_get w.replicas at) refl kept

-- ---- parts of a run, one after the other

module _ {K S : Type 0} (m : Meant K) (means : Meaning S) (fits : Check) (plan : Plan) where
  -- the replicas are the same
  pub stays_same : (keepers : List (Keeping K)) (before after : Net S) → map (replica_of means) after.seats ≡ map (replica_of means) before.seats
      → StaysKept m means fits plan keepers before keepers after
  stays_same keepers before after same = record { stays = λ l kept. subst (AreKept m fits plan l keepers) (sym same) kept }

  pub stays_both : (old middle new : List (Keeping K)) (before between after : Net S) → StaysKept m means fits plan old before middle between
      → StaysKept m means fits plan middle between new after → StaysKept m means fits plan old before new after
  stays_both old middle new before between after one two = record { stays = λ l kept. two.stays l (one.stays l kept) }

  pub stop_after : (old middle new : List (Keeping K)) (before between : Net S) (fault : StepFault)
      → StaysKept m means fits plan old before middle between → IsStop m means fits plan middle between new fault
      → IsStop m means fits plan old before new fault
  stop_after old middle new before between fault one two = record { cause = λ l kept. two.cause l (one.stays l kept) }

  pub goes_after : {X : Type 0} (old middle new : List (Keeping K)) (before between after : Net S) (result : Result X StepFault)
      → StaysKept m means fits plan old before middle between → GoesKept m means fits plan middle between result new after
      → GoesKept m means fits plan old before result new after
  goes_after old middle new before between after (Ok x) one two = stays_both old middle new before between after one two
  goes_after old middle new before between after (Err fault) one two = stop_after old middle new before between fault one two

  -- one event
  pub event_goes : (old new : List (Keeping K)) (before after : Net S) (at : ℕ) (event : Event) → HasKept m event at old new
      → world_of means after ≡ event_at fits plan (world_of means before) at event → StaysKept m means fits plan old before new after
  event_goes old new before after at event one is = record {
    stays = λ l kept. subst (AreKept m fits plan l new) (ap (λ (w : World). w.replicas) (sym is))
        (event_kept m fits plan l (world_of means before) at event old new one kept);
  }

  pub taken_goes : (keepers : List (Keeping K)) (before after : Net S) (at : ℕ) → world_of means after ≡ taken_at (world_of means before) at
      → StaysKept m means fits plan keepers before keepers after
  taken_goes keepers before after at is = record {
    stays = λ l kept. subst (AreKept m fits plan l keepers) (ap (λ (w : World). w.replicas) (sym is))
        (taken_kept m fits plan l (world_of means before) at keepers kept);
  }

  -- the keeper of the replica at a place has failed
  rose_failed : (l : Incarnations) (at : ℕ) (old : List (Keeping K)) (replicas : List Replica) (found after : Option (Keeping K))
      → slice_get old at ≡ found → RoseFrom m found after
      → AreKept m fits plan l old replicas → HasFailed m (l.faults at) after
  rose_failed l at old replicas None after is rose kept = absurd rose
  rose_failed l at old replicas (Some k) after is rose kept =
      let r = found_too old replicas at k kept.count is in
      let least : l.faults at ≤ m.faults k.keeper = (kept.each at k r.0 is r.1).faults in
      let more : m.faults k.keeper < m.faults rose.0.keeper = rose.2 in
      let failed : l.faults at < m.faults rose.0.keeper = omega arith in
      subst (HasFailed m (l.faults at)) (sym rose.1) failed

  pub event_stops : (old new : List (Keeping K)) (before : Net S) (at : ℕ) (fault : StepFault) → IsKeepFault m at old new fault
      → IsStop m means fits plan old before new fault
  event_stops old new before at (Keep replica) h = record {
    cause = λ l kept. subst (λ (p : ℕ). HasFailed m (l.faults p) (slice_get new p)) (sym h.0)
        (rose_failed l at old (map (replica_of means) before.seats) (slice_get old at) (slice_get new at) refl h.1 kept);
  }
  event_stops old new before at NoMemory h = record { cause = λ l kept. tt }
