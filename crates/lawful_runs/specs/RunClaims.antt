-- The claims of the laws on runs of plans, and their premises: definitions that their clauses share.
use Rattle.std.specs.Prelude.{◌≡◌, ℕ, ◌<◌, List, Some, false, slice_get}
use Rattle.count_set.specs.Sets.{is_among}
use Rattle.fault_script.specs.Sealing.{Signer}
use Rattle.node_core.specs.Rows.{Check}
use Rattle.run_record.specs.declared.verdict.Verdict.TheVariants.{Stalled}
use Rattle.plan_text.specs.declared.plan.Plan.{Plan}
use Rattle.plan_text.specs.Rules.{KeepsRules}
use Rattle.headline_laws.specs.Premises.{IsLawfulRun}
use Rattle.replay_run.specs.Over.{last_of}
use Rattle.replay_run.specs.Play.{play_of, run_for, start_of}
use Rattle.replica_seat.specs.Arrivals.{IsArrivalList}
use Rattle.replica_seat.specs.Feed.{timed_for, txs_of}
use Rattle.replica_seat.specs.Seats.{Replica}
use Rattle.run_verdict.specs.Verdicts.{verdict_of}
use Rattle.seal_kit.specs.Seals.{capacity_of}
use Rattle.lawful_runs.specs.Lawful.{AreMadeFor, IsReadableRun}
use Rattle.lawful_runs.specs.Spent.{WasSpent}

-- the claim, if there is a sealer for each replica of the plan, which has made nothing yet
abbrev pub WhereSealers : Plan → List Signer → Type 0 → Type 0
WhereSealers plan sealers claim = AreMadeFor plan sealers → claim

-- the claim, if the plan keeps its rules, and this is the sealer at this place, with the capacity of the plan's height
abbrev pub WhereSealer : Plan → List Signer → ℕ → Signer → Type 0 → Type 0
WhereSealer plan sealers at s claim = KeepsRules plan → AreMadeFor plan sealers → slice_get sealers at ≡ Some s → s.capacity ≡ capacity_of plan.height → claim

-- the claim, if this is the replica at this place after this many steps, and it is honest
abbrev pub WhereHonest : Check → Plan → List Signer → ℕ → ℕ → Replica → Type 0 → Type 0
WhereHonest fits plan sealers steps at r claim =
    slice_get (run_for fits plan (start_of plan sealers) steps).replicas at ≡ Some r → is_among plan.faulty at ≡ false → claim

-- the arrivals of each replica of the plan form an arrival list
abbrev pub HasArrivalLists : Plan → Type 0
HasArrivalLists plan = (r : ℕ) → r < plan.setting.n → IsArrivalList (txs_of (timed_for plan r))

-- if what was delivered to its replicas can be written, the record of the run is lawful
abbrev pub PlayIsLawful : Check → Plan → List Signer → Type 0
PlayIsLawful fits plan sealers = IsReadableRun (play_of fits plan sealers) → IsLawfulRun fits (play_of fits plan sealers)

-- if its verdict is Stalled, the run was spent
abbrev pub IsSpentIfStalled : Check → Plan → List Signer → Type 0
IsSpentIfStalled fits plan sealers =
    verdict_of fits (play_of fits plan sealers) ≡ Stalled → WasSpent plan (last_of fits plan sealers) (play_of fits plan sealers)
