use Rattle.std.proofs.Common.{rules, ap, arith, ◌≤◌}
use Rattle.locked_log.proofs.Keeps.{splits}
use Rattle.locked_log.proofs.log.LockedLog.split.Goals as goal

pub split_seat-requires : goal.split_seat-requires
split_seat-requires g c =
    let same = ap (λ k. k.parts) c.pass.view_is in
    let two : 2 ≤ c.pass.inside.seat.me.0.parts = omega (arith, c.requires.parts, same) in
    (search rules, search rules, splits _ _ _ _ c.pass.invariant.1.0 two)
