use Rattle.std.proofs.Common.{[], get_or}
use Rattle.line_up.proofs.Batches.{batch_decided}
use Rattle.line_up.proofs.Majorities.{majorities}
use Rattle.line_up.proofs.laws.lines_of_batches_have_majorities.Goals as goal

pub returns : goal.returns
returns c = λ s lists vertices batches i complete are inside.
    majorities s lists (get_or batches i []) (batch_decided s lists vertices batches i complete are inside)
