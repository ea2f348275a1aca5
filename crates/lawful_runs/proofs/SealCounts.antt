-- What honest sealers make in a run.
use Rattle.std.proofs.Common.{◌≡◌, ℕ, ◌*◌, ◌^◌, ◌<◌, ◌≤◌, List, false, Option, Some, subst, ◌∙◌, arith}
use Rattle.std.specs.Prelude.{slice_get}
use Rattle.std.specs.Option.{option_map_or}
use Rattle.seq_base.specs.Setting.{Parameters}
use Rattle.seal_kit.specs.Seals.{capacity_of}
use Rattle.count_set.specs.Sets.{is_among}
use Rattle.fault_script.specs.Sealing.{Signer}
use Rattle.node_core.specs.declared.event.Event.{Event}
use Rattle.node_core.specs.Rows.{Check}
use Rattle.node_core.specs.Runs.{opening_state, journal_of, state_after}
use Rattle.node_core.specs.Reported.{Gives}
use Rattle.plan_text.specs.declared.plan.Plan.{Plan}
use Rattle.plan_text.specs.Rules.{KeepsRules}
use Rattle.replay_run.specs.Play.{run_for, start_of}
use Rattle.replica_seat.specs.Seats.{Replica}
use Rattle.lawful_runs.specs.Honest.{IsRun, IsNeverSpent}
use Rattle.lawful_runs.specs.Lawful.{AreMadeFor}
use Rattle.lawful_runs.proofs.Worlds.{ends_good}

-- the laws on sealers, as the lower crate states them
abbrev pub SameJournals : Type 0
SameJournals = (fits : Check) (gives : Gives) (s : Parameters) (views me capacity other : ℕ) (events : List Event) → views < 2 ^ 32
    → 5 * views ≤ capacity → 5 * views ≤ other
    → journal_of fits gives (opening_state s views me capacity) events ≡ journal_of fits gives (opening_state s views me other) events

abbrev pub FewAreMade : Type 0
FewAreMade = (fits : Check) (gives : Gives) (s : Parameters) (views me capacity : ℕ) (events : List Event) → views < 2 ^ 32 → 5 * views ≤ capacity
    → (state_after fits gives (opening_state s views me capacity) events).made ≤ 5 * views

pub never_spent : SameJournals → FewAreMade → (fits : Check) (plan : Plan) (sealers : List Signer) (steps at : ℕ) (s : Signer) (r : Replica)
    → KeepsRules plan → AreMadeFor plan sealers
    → slice_get sealers at ≡ Some s → s.capacity ≡ capacity_of plan.height
    → slice_get (run_for fits plan (start_of plan sealers) steps).replicas at ≡ Some r → is_among plan.faulty at ≡ false
    → IsNeverSpent fits plan s r
never_spent same few fits plan sealers steps at s r rules made own full found honest =
    let run : IsRun fits plan at s.capacity r = subst (λ (o : Option Signer). IsRun fits plan at (option_map_or (λ x. x.capacity) o 0) r) own
    ((ends_good fits plan sealers steps made).runs at r found honest) in
    let wide : plan.views < 2 ^ 32 = omega (arith, rules.few_views) in
    let room : 5 * plan.views ≤ s.capacity = omega (arith, rules.seals_suffice, full) in
    record {
      room = room;
      few = rw run.state (few fits r.gives plan.setting plan.views r.number s.capacity run.events wide room);
      events = run.events;
      state = run.state;
      journal = λ capacity more. run.journal ∙ same fits r.gives plan.setting plan.views r.number s.capacity capacity run.events wide room more;
    }
