-- An honest replica that is given events is a run of its node.
use Rattle.std.proofs.Common.{◌≡◌, ◌∙◌, ℕ, List, [], ◌∷◌, ◌++◌, false, refl, sym, ap, append_assoc}
use Rattle.std.proofs.lemmas.List.{append-nil}
use Rattle.std.specs.List.{flat_map}
use Rattle.count_set.specs.Sets.{is_among}
use Rattle.journal_rules.specs.JournalPrefixes.{arrived_by}
use Rattle.node_core.specs.Rows.{Check}
use Rattle.node_core.specs.Runs.{journal_of, opening_state, state_after}
use Rattle.node_core.specs.State.{State}
use Rattle.node_core.specs.Reported.{Gives}
use Rattle.node_core.specs.Turn.{turn_of}
use Rattle.node_core.specs.declared.event.Event.{Event}
use Rattle.node_core.specs.declared.event.Event.TheVariants.{Arrived, Deliver, Tick}
use Rattle.node_core.specs.declared.entry.Entry.{Entry}
use Rattle.plan_text.specs.declared.plan.Plan.{Plan}
use Rattle.replica_seat.specs.Acting.{After, after_event}
use Rattle.replica_seat.specs.Seats.{Replica}
use Rattle.round_rules.specs.Acts.{act, acts, after_events, opening}
use Rattle.round_rules.specs.Journals.{known_in}

-- a replica whose node made turns on some events from a state
record HasTurned (fits : Check) (me : ℕ) (gives : Gives) (start : State) (before : List Entry) (events : List Event) (r : Replica) : Type 0 where
  gives_same : r.gives ≡ gives
  journal : r.journal ≡ before ++ journal_of fits gives start events
  state : r.state ≡ state_after fits gives start events
  number : r.number ≡ me

module _ (fits : Check) (plan : Plan) (at : ℕ) (honest : is_among plan.faulty at ≡ false) where
  -- one event
  acted_once : (a : After) (e : Event)
      → HasTurned fits a.replica.number a.replica.gives a.replica.state a.replica.journal (e ∷ []) (act fits plan at a e).replica
  unfolding after_event
  acted_once a e = rw honest (record { gives_same = refl; journal = refl; state = refl; number = refl })

  -- and then others
  joined : (a : After) (e : Event) (es : List Event)
      → HasTurned fits (act fits plan at a e).replica.number (act fits plan at a e).replica.gives (act fits plan at a e).replica.state
      (act fits plan at a e).replica.journal es (acts fits plan at a (e ∷ es)).replica
      → HasTurned fits a.replica.number a.replica.gives a.replica.state a.replica.journal (e ∷ es) (acts fits plan at a (e ∷ es)).replica
  joined a e es rest = record {
    gives_same = rest.gives_same ∙ one.gives_same;
    journal = rest.journal
        ∙ ap (λ (j : List Entry). j ++ journal_of fits next.gives next.state es) one.journal
        ∙ ap (λ (g : Gives). (before ++ first) ++ journal_of fits g next.state es) one.gives_same
        ∙ ap (λ (s : State). (before ++ first) ++ journal_of fits a.replica.gives s es) one.state
        ∙ append_assoc before first (journal_of fits a.replica.gives (turn_of fits a.replica.gives a.replica.state e).state es);
    state = rest.state
        ∙ ap (λ (g : Gives). state_after fits g next.state es) one.gives_same
        ∙ ap (λ (s : State). state_after fits a.replica.gives s es) one.state;
    number = rest.number ∙ one.number;
  }
    where
      next : Replica
      next = (act fits plan at a e).replica

      before : List Entry
      before = a.replica.journal

      first : List Entry
      first = journal_of fits a.replica.gives a.replica.state (e ∷ [])

      one : HasTurned fits a.replica.number a.replica.gives a.replica.state before (e ∷ []) next
      one = acted_once a e

  turned_on : (events : List Event) (a : After)
      → HasTurned fits a.replica.number a.replica.gives a.replica.state a.replica.journal events (acts fits plan at a events).replica
  turned_on [] a = record { gives_same = refl; journal = sym (append-nil a.replica.journal); state = refl; number = refl }
  turned_on (e ∷ es) a = joined a e es (turned_on es (act fits plan at a e))

  -- from its opening state
  pub journal_is : (gives : Gives) (capacity : ℕ) (events : List Event)
      → (after_events fits plan gives capacity at events).replica.journal ≡ journal_of fits gives (opening_state plan.setting plan.views at capacity) events
  unfolding after_events
  journal_is gives capacity events = (turned_on events (opening plan gives capacity at)).journal

  pub state_is : (gives : Gives) (capacity : ℕ) (events : List Event)
      → (after_events fits plan gives capacity at events).replica.state ≡ state_after fits gives (opening_state plan.setting plan.views at capacity) events
  unfolding after_events
  state_is gives capacity events = (turned_on events (opening plan gives capacity at)).state

  pub gives_is : (gives : Gives) (capacity : ℕ) (events : List Event) → (after_events fits plan gives capacity at events).replica.gives ≡ gives
  unfolding after_events
  gives_is gives capacity events = (turned_on events (opening plan gives capacity at)).gives_same

  pub number_is : (gives : Gives) (capacity : ℕ) (events : List Event) → (after_events fits plan gives capacity at events).replica.number ≡ at
  unfolding after_events
  number_is gives capacity events = (turned_on events (opening plan gives capacity at)).number

-- the arrivals of events, as the rules of journals define them
pub carried_is : (events : List Event) → known_in events ≡ flat_map arrived_by events
carried_is [] = refl
carried_is (Arrived list ∷ events) = ap (λ rest. list ++ rest) (carried_is events)
carried_is (Deliver from bytes ∷ events) = carried_is events
carried_is (Tick floor ∷ events) = carried_is events
