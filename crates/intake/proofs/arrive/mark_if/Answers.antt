use Rattle.std.proofs.Common.{rules}
use Rattle.intake.specs.Arriving.{marked_if}
use Rattle.intake.proofs.Entries.{map_RetainsPairs}
use Rattle.intake.proofs.Marks.{marked_key}
use Rattle.intake.proofs.arrive.mark_if.Goals as goal

pub returns : goal.returns
returns c =
    map_RetainsPairs _ (marked_if c.args.k c.args.f c.args.bound c.args.extra.now) _
    (marked_key c.args.k c.args.f c.args.bound c.args.extra.now) (λ k v b w g call. search rules) _ _ c.retain.ensures.filtered
