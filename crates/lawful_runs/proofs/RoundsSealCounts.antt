-- What the sealer of an honest replica makes in a run in rounds.
use Rattle.std.proofs.Common.{◌≡◌, ◌∙◌, ℕ, ◌*◌, ◌^◌, ◌<◌, ◌≤◌, List, false, sym, ap, subst, arith}
use Rattle.count_set.specs.Sets.{is_among}
use Rattle.node_core.specs.Rows.{Check}
use Rattle.node_core.specs.Runs.{journal_of, opening_state, state_after}
use Rattle.node_core.specs.State.{State}
use Rattle.node_core.specs.Reported.{Gives}
use Rattle.node_core.specs.declared.event.Event.{Event}
use Rattle.run_record.specs.declared.record.RunRecord.{RunRecord}
use Rattle.plan_text.specs.declared.plan.Plan.{Plan}
use Rattle.plan_text.specs.Rules.{KeepsRules}
use Rattle.replica_seat.specs.Seats.{Replica}
use Rattle.round_rules.specs.Journals.{events_of}
use Rattle.round_rules.specs.Ran.{Ran, journal_in}
use Rattle.lawful_runs.proofs.SealCounts.{FewAreMade, SameJournals}
use Rattle.lawful_runs.proofs.NodeRuns.{gives_is, journal_is, number_is, state_is}
use Rattle.lawful_runs.specs.RoundsSpent.{IsNeverSpentIn, replica_in}

pub never_spent_in : SameJournals → FewAreMade → (fits : Check) (plan : Plan) (gives : ℕ → Gives) (capacity : ℕ) (run : RunRecord)
    → KeepsRules plan → 5 * plan.views ≤ capacity
    → Ran fits plan gives capacity run → (at : ℕ) → at < plan.setting.n → is_among plan.faulty at ≡ false → IsNeverSpentIn fits plan gives capacity run at
never_spent_in same few fits plan gives capacity run rules room ran at below honest = record {
  journal = sym (ran.turned at below);
  number = number;
  gives_same = own;
  never = record {
    room = room;
    few = subst (λ (s : State). s.made ≤ 5 * plan.views) (sym state) (few fits (gives at) plan.setting plan.views at capacity events wide room);
    events = events;
    state = state ∙ ap (λ (g : Gives). state_after fits g (opening_state plan.setting plan.views at capacity) events) (sym own)
        ∙ ap (λ (k : ℕ). state_after fits r.gives (opening_state plan.setting plan.views k capacity) events) (sym number);
    journal = λ other more. journal_is fits plan at honest (gives at) capacity events
        ∙ same fits (gives at) plan.setting plan.views at capacity other events wide room more
        ∙ ap (λ (g : Gives). journal_of fits g (opening_state plan.setting plan.views at other) events) (sym own)
        ∙ ap (λ (k : ℕ). journal_of fits r.gives (opening_state plan.setting plan.views k other) events) (sym number);
  };
}
  where
    events : List Event
    events = events_of (journal_in run at)

    r : Replica
    r = replica_in fits plan gives capacity run at

    wide : plan.views < 2 ^ 32
    wide = omega (arith, rules.few_views)

    number : r.number ≡ at
    number = number_is fits plan at honest (gives at) capacity events

    own : r.gives ≡ gives at
    own = gives_is fits plan at honest (gives at) capacity events

    state : r.state ≡ state_after fits (gives at) (opening_state plan.setting plan.views at capacity) events
    state = state_is fits plan at honest (gives at) capacity events
