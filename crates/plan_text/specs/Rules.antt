-- The rules that every plan meets once it is read.
use Rattle.std.specs.Prelude.{◌≢◌, ℕ, ◌*◌, ◌<◌, ◌≤◌, ◌^◌, length, All}
use Rattle.std.specs.List.{AllPairs}
use Rattle.std.specs.List.Sorted.{IsStrictlyIncreasing}
use Rattle.seal_kit.specs.Seals.{capacity_of}
use Rattle.seq_base.specs.Setting.{IsValid}
use Rattle.plan_text.specs.declared.plan.Plan.{Plan}
use Rattle.plan_text.specs.Apart.{KeepsApart}
use Rattle.plan_text.specs.Arrivals.{total_received, IsArrival}
use Rattle.plan_text.specs.Clients.{IsClient}
use Rattle.plan_text.specs.Deeds.{occasion_of, IsDeed}
use Rattle.plan_text.specs.Links.{send_of, IsLinkFault}
use Rattle.plan_text.specs.Restarts.{moment_of, IsRestart}

pub record KeepsRules (plan : Plan) : Type 0 where
  pub setting : IsValid plan.setting
  pub small_seed : plan.seed < 2 ^ 63
  -- there is at least one view, and the length of a run is bounded
  pub some_views : 1 ≤ plan.views
  pub few_views : plan.views ≤ 4000
  pub few_ticks : plan.ticks ≤ 1000
  pub few_turns : plan.turns ≤ 200000
  -- a replica makes at most five seals in a view, and its sealer has enough for all views
  pub seals_suffice : 5 * plan.views ≤ capacity_of plan.height
  -- the pairs of replicas over all views are bounded
  pub few_pairs : plan.setting.n * plan.setting.n * plan.views ≤ 65536
  -- at most f replicas are faulty, each named once
  pub faulty_below : All (λ r. r < plan.setting.n) plan.faulty
  pub faulty_rise : IsStrictlyIncreasing plan.faulty
  pub few_faulty : length plan.faulty ≤ plan.setting.f
  -- the clients and their transactions are bounded
  pub few_clients : length plan.clients ≤ 16
  pub clients : All IsClient plan.clients
  pub small_counts : All (λ client. client.count ≤ 65536) plan.clients
  -- what a replica receives fits its log, and reaches it once
  pub arrivals : All (IsArrival plan.setting.n) plan.arrivals
  pub logs_suffice : (r : ℕ) → r < plan.setting.n → total_received plan.clients plan.arrivals r ≤ 65536
  pub apart : KeepsApart plan
  -- each send has at most one fault
  pub links : All (IsLinkFault plan.setting.n) plan.links
  pub links_differ : AllPairs (λ a b. send_of a ≢ send_of b) plan.links
  -- only faulty replicas have deeds, each once in a view
  pub deeds : All (IsDeed plan.faulty plan.views) plan.deeds
  pub deeds_differ : AllPairs (λ a b. occasion_of a ≢ occasion_of b) plan.deeds
  -- only honest ones restart, each once at a turn
  pub restarts : All (IsRestart plan.setting.n plan.faulty) plan.restarts
  pub restarts_differ : AllPairs (λ a b. moment_of a ≢ moment_of b) plan.restarts
