use Rattle.std.proofs.Common.{◌≡◌, ◌++◌, string_bytes}
use Rattle.plan_maker.specs.Text.{head_text, arrivals_text}
use Rattle.plan_maker.proofs.text.make_plan.Given as goal

abbrev pub invariant-loop-replica : goal.invariant-loop-replica
invariant-loop-replica l = string_bytes l.text ≡ head_text l.seed ++ arrivals_text l.seed l.count l.replica
