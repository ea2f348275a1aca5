-- The record of an exact run fits the form of its trace.
use Rattle.std.proofs.Common.{◌≡◌, ◌∙◌, ◌<◌, ◌^◌, ℕ, List, [], ◌∷◌, false, Option, Some, sym, ap, subst, arith}
use Rattle.std.specs.Prelude.{All, slice_get}
use Rattle.std.specs.Option.{option_map, option_map_or}
use Rattle.std.proofs.lemmas.List.{length-map}
use Rattle.std.proofs.lemmas.List.Elements.{All-cons, All-head, All-nil, All-tail}
use Rattle.std.proofs.lemmas.Option.{slice_get-map}
use Rattle.seq_base.proofs.Options.{at_map}
use Rattle.count_set.specs.Sets.{is_among}
use Rattle.fault_script.specs.Sealing.{Signer}
use Rattle.plan_text.specs.declared.plan.Plan.{Plan}
use Rattle.plan_text.specs.Rules.{KeepsRules}
use Rattle.node_core.specs.Rows.{Check}
use Rattle.node_core.specs.Runs.{journal_of, opening_state}
use Rattle.node_core.specs.State.{State}
use Rattle.node_core.specs.Reported.{Gives}
use Rattle.node_core.specs.Turn.{turn_of}
use Rattle.node_core.specs.declared.event.Event.{Event}
use Rattle.node_core.specs.declared.entry.Entry.{Entry}
use Rattle.run_record.specs.declared.record.Head.{Head}
use Rattle.run_record.specs.declared.record.Journal.{Journal}
use Rattle.run_record.specs.declared.record.RunRecord.{RunRecord}
use Rattle.journal_rules.specs.Records.{arrivals_in, journal_in}
use Rattle.replica_seat.specs.Arrivals.{IsArrivalList}
use Rattle.replica_seat.specs.Seats.{Replica}
use Rattle.replica_seat.specs.Senders.{IsFrom}
use Rattle.replica_seat.specs.Showing.{batches_of, head_of, journal_of as shown_journal}
use Rattle.replay_run.specs.Play.{play_of, record_of, run_for, start_of, steps_of}
use Rattle.replay_run.specs.World.{World}
use Rattle.lawful_runs.specs.Honest.{IsRun, capacity_at}
use Rattle.lawful_runs.specs.Lawful.{AreMadeFor}
use Rattle.lawful_runs.specs.RunClaims.{HasArrivalLists, WhereHonest, WhereSealers}
use Rattle.round_rules.proofs.Places.{found_at}
use Rattle.trace_form.specs.declared.keys.Keys.TheVariants.{Seed}
use Rattle.trace_form.specs.Contents.{span_of}
use Rattle.trace_laws.specs.Form.{FitsForm, FitsTurn, view_in}
use Rattle.trace_laws.proofs.Openings.{opening_fits}
use Rattle.trace_laws.proofs.Replicas.{SealedTwo}
use Rattle.trace_laws.proofs.Steps.{Holds, IsHeld, ShortFloor, ends_held}

-- the events of a journal of a node, in its entries
all_from : (fits : Check) (gives : Gives) (s : State) (n : ℕ) (events : List Event) → All (IsFrom n) events
    → All (λ e. IsFrom n e.event) (journal_of fits gives s events)
all_from fits gives s n [] all = All-nil (λ (e : Entry). IsFrom n e.event)
all_from fits gives s n (e ∷ events) all =
    All-cons (λ (x : Entry). IsFrom n x.event) (record { event = e; turned = (turn_of fits gives s e).reported })
    (journal_of fits gives (turn_of fits gives s e).state events)
    (All-head (IsFrom n) e events all) (all_from fits gives (turn_of fits gives s e).state n events (All-tail (IsFrom n) e events all))

-- what three lists of facts imply for each entry
pub turns_fit : (n : ℕ) (journal : List Entry) → All (λ e. IsFrom n e.event) journal → All ShortFloor journal → All SealedTwo journal → All (FitsTurn n) journal
turns_fit n journal from floors few i d inside = record { from = from i d inside; floor = floors i d inside; few = few i d inside }

module _ (run_their_nodes : (fits : Check) (plan : Plan) (sealers : List Signer) (steps at : ℕ) (r : Replica)
    → WhereSealers plan sealers (WhereHonest fits plan sealers steps at r (IsRun fits plan at (capacity_at sealers at) r)))
    (fits : Check) (plan : Plan) (sealers : List Signer) (rules : KeepsRules plan) (made : AreMadeFor plan sealers) (lists : HasArrivalLists plan) where
  abbrev world : World
  world = run_for fits plan (start_of plan sealers) (steps_of plan)

  abbrev run : RunRecord
  run = play_of fits plan sealers

  held : Holds fits plan world
  held = ends_held fits plan rules.few_views lists sealers (steps_of plan) made.count made.below

  replica_at : (r : ℕ) → r < plan.setting.n → (x : Replica) × (slice_get world.replicas r ≡ Some x) × IsHeld plan x
  replica_at r below =
      let found = found_at world.replicas r (omega (arith, held.count, below)) in
      (found.0, found.1, held.each r found.0 found.1)

  journal_is : (r : ℕ) (x : Replica) → slice_get world.replicas r ≡ Some x → journal_in run r ≡ x.journal
  unfolding record_of
  journal_is r x found = ap (λ (o : Option Journal). option_map_or (λ (j : Journal). j.entries) o [])
      (slice_get-map shown_journal world.replicas r ∙ ap (option_map shown_journal) found)

  arrivals_are : (r : ℕ) (x : Replica) → slice_get world.replicas r ≡ Some x → arrivals_in run r ≡ x.feed.txs
  unfolding record_of
  arrivals_are r x found = at_map (λ (y : Replica). y.feed.txs) world.replicas r x [] found

  view_is : (r : ℕ) (x : Replica) → slice_get world.replicas r ≡ Some x → view_in run r ≡ x.state.known.view
  unfolding record_of
  view_is r x found = ap (λ (o : Option Head). option_map_or (λ (h : Head). h.view) o 0)
      (slice_get-map head_of world.replicas r ∙ ap (option_map head_of) found)

  own_turns : (r : ℕ) (x : Replica) → is_among plan.faulty r ≡ false → slice_get world.replicas r ≡ Some x → IsHeld plan x
      → All (FitsTurn plan.setting.n) (journal_in run r)
  own_turns r x honest found h =
      let own : IsRun fits plan r (capacity_at sealers r) x = run_their_nodes fits plan sealers (steps_of plan) r x made found honest in
      let from : All (λ e. IsFrom plan.setting.n e.event) x.journal =
      subst (All (λ (e : Entry). IsFrom plan.setting.n e.event)) (sym own.journal)
      (all_from fits x.gives (opening_state plan.setting plan.views x.number (capacity_at sealers r)) plan.setting.n own.events own.from) in
      subst (All (FitsTurn plan.setting.n)) (sym (journal_is r x found)) (turns_fit plan.setting.n x.journal from h.floors h.bounded.few)

  pub exact_fits : FitsForm run (span_of plan.views (Seed plan.seed) plan.height)
  unfolding record_of
  exact_fits = record {
    opening = opening_fits plan world.turns world.ticks rules (omega (arith, held.turns, rules.few_turns)) (omega (arith, held.ticks, rules.few_ticks));
    each_arrival = length-map world.replicas (λ r. r.feed.txs) ∙ held.count;
    each_batch = length-map world.replicas batches_of ∙ held.count;
    arrivals = λ r below. (let x = replica_at r below in subst IsArrivalList (sym (arrivals_are r x.0 x.1)) x.2.list);
    turns = λ r honest. (let x = replica_at r honest.below in own_turns r x.0 honest.correct x.1 x.2);
    views = λ r honest. (let x = replica_at r honest.below in
        let bounded = x.2.bounded in
        subst (λ (v : ℕ). v < 2 ^ 32) (sym (view_is r x.0 x.1)) (omega (arith, bounded.bounds.view, bounded.bounds.wide)));
  }
