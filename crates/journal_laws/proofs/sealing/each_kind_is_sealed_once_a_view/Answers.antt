use Rattle.std.proofs.Common.{refl}
use Rattle.node_core.specs.Runs.{opening_state}
use Rattle.journal_laws.proofs.SealCounts.{opens}
use Rattle.journal_laws.proofs.TurnSeals.{run_seals, once}
use Rattle.journal_laws.proofs.sealing.each_kind_is_sealed_once_a_view.Goals as goal

pub returns : goal.returns
returns c = λ fits gives s views me capacity events wide.
    let start = opening_state s views me capacity in
    once start.known _ _ (run_seals fits gives start events (opens s views me wide)) refl refl refl refl refl
