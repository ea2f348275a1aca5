-- The signers at the start of a run.
use Rattle.std.specs.Prelude.{ℕ, List, map}
use Rattle.fault_script.specs.Sealing.{Signer, signer}
use Rattle.node_core.specs.Reported.{Gives}
use Rattle.plan_text.specs.declared.plan.Plan.{Plan}
use Rattle.round_rules.specs.Moments.{everyone}

-- one sealer for each replica, which has made no seals
abbrev pub fresh_signers : Plan → (ℕ → Gives) → ℕ → List Signer
fresh_signers plan gives capacity = map (λ at. signer at capacity (gives at) 0) (everyone plan)
