use Rattle.std.proofs.Common.{List, drop}
use Rattle.run_verdict.specs.Collided.{Received, received_from, received_in}
use Rattle.run_verdict.specs.Seen.{Knows}
use Rattle.run_verdict.proofs.ReceivedBlocks.{Stands}
use Rattle.run_verdict.proofs.collision.SeenBlocks.see_all.Given as goal

abbrev pub invariant-loop-at : goal.invariant-loop-at
invariant-loop-at l = (before : List Received) → Knows before l.initial.self.spellings l.initial.self.first_places
    → Stands before (received_in (l.receiver, l.journal)) (received_from l.receiver l.at (drop l.at l.journal.entries)) l.self.spellings l.self.first_places
