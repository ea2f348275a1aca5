use Rattle.std.proofs.Common.{[], drop}
use Rattle.std.specs.List.{flat_map}
use Rattle.run_record.specs.Honest.{honest_items}
use Rattle.run_verdict.specs.Delivered.{honest_in}
use Rattle.run_verdict.specs.Collided.{received_in, all_received}
use Rattle.run_verdict.proofs.ReceivedBlocks.{Stands}
use Rattle.run_verdict.proofs.collision.first_collision.Given as goal

abbrev pub invariant-loop-receiver : goal.invariant-loop-receiver
invariant-loop-receiver l =
    Stands [] (all_received l.run) (flat_map received_in (honest_items (honest_in l.run) l.receiver (drop l.receiver l.run.journals)))
    l.seen.spellings l.seen.first_places
