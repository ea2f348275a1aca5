use Rattle.std.proofs.Common.{arith}
use Rattle.restart_run.specs.Started.{none_failed}
use Rattle.restart_run.proofs.steady.play_restarting.Goals as goal

pub unreachable-requires : goal.unreachable-requires
unreachable-requires g c =
    let fault = c.in-Err-Keep.ensures.fault none_failed (λ at k here. omega arith) in
    let failed = rw c.in-Err-Keep.field-0-is at fault in
    omega (arith, failed)
