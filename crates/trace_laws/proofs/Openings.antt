-- The numbers at the beginning of the trace of a plan's run are in their sets.
use Rattle.std.proofs.Common.{◌≡◌, ◌<◌, ◌*◌, ◌^◌, ℕ, true, arith}
use Rattle.std.proofs.lemmas.Bool.{and_from, le-leb}
use Rattle.std.proofs.lemmas.List.Elements.{recursion_from_All}
use Rattle.std.proofs.lemmas.List.Kept.{AllPairs-from_increasing}
use Rattle.plan_text.specs.declared.plan.Plan.{Plan}
use Rattle.plan_text.specs.Rules.{KeepsRules}
use Rattle.seal_kit.specs.Seals.{capacity_of}
use Rattle.trace_form.specs.declared.keys.Keys.TheVariants.{Seed}
use Rattle.trace_form.specs.declared.opening.Opening.{Opening}
use Rattle.trace_form.specs.Contents.{span_of}
use Rattle.trace_form.specs.Fitting.{FitsOpening}
use Rattle.trace_form.specs.Opening.{is_within}

abbrev pub opening_of : Plan → ℕ → ℕ → Opening
opening_of plan turns ticks =
    record { setting = plan.setting; span = span_of plan.views (Seed plan.seed) plan.height; turns = turns; ticks = ticks; faulty = plan.faulty }

within : (plan : Plan) → KeepsRules plan → is_within plan.setting.n (span_of plan.views (Seed plan.seed) plan.height) ≡ true
within plan rules =
    and_from _ _ (and_from _ _ (le-leb 1 plan.views rules.some_views) (le-leb (5 * plan.views) (capacity_of plan.height) rules.seals_suffice))
    (and_from _ _ (le-leb plan.views 4000 rules.few_views) (le-leb (plan.setting.n * plan.setting.n * plan.views) 65536 rules.few_pairs))

pub opening_fits : (plan : Plan) (turns ticks : ℕ) → KeepsRules plan → turns < 2 ^ 32 → ticks < 2 ^ 32 → FitsOpening (opening_of plan turns ticks)
opening_fits plan turns ticks rules few_turns few_ticks = record {
  valid = rules.setting;
  within = within plan rules;
  keys = omega (arith, rules.small_seed);
  turns = few_turns;
  ticks = few_ticks;
  faulty = record {
    few = rules.few_faulty;
    below = recursion_from_All (λ (r : ℕ). r < plan.setting.n) plan.faulty rules.faulty_below;
    ascending = AllPairs-from_increasing plan.faulty rules.faulty_rise;
  };
}
