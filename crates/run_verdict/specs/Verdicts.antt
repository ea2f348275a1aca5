-- What a record shows.
use Rattle.std.specs.Prelude.{ℕ, List, Bool, false, ◌||◌, Option, Some, None, slice_get, if◌then◌else◌}
use Rattle.std.specs.List.{list_all, range_with_len}
use Rattle.std.specs.Option.{option_map_or}
use Rattle.count_set.specs.Sets.{is_among}
use Rattle.seq_base.specs.declared.tx.Tx.{Tx}
use Rattle.run_record.specs.declared.record.RunRecord.{RunRecord}
use Rattle.run_record.specs.declared.verdict.ForgedAt.{ForgedAt}
use Rattle.run_record.specs.declared.verdict.CollidedAt.{CollidedAt}
use Rattle.run_record.specs.declared.verdict.Verdict.{Verdict}
use Rattle.run_record.specs.declared.verdict.Verdict.TheVariants.{Done, Stalled, Forged, Collided}
use Rattle.run_record.specs.Done.{due_of, hold_all}
use Rattle.node_core.specs.Rows.{Check}
use Rattle.run_verdict.specs.Forged.{first_forged_of}
use Rattle.run_verdict.specs.Collided.{first_collision_of}

-- whether a replica has a batch list that contains all due transactions
abbrev pub lists_all : RunRecord → List Tx → ℕ → Bool
lists_all run due replica = option_map_or (λ batches. hold_all batches due) (slice_get run.batches replica) false

-- whether each honest one of these does
abbrev pub all_list : RunRecord → List Tx → List ℕ → Bool
all_list run due replicas = list_all (λ replica. is_among run.faulty replica || lists_all run due replica) replicas

-- whether every honest replica has a batch list that contains every due transaction
unfoldable pub is_record_done : RunRecord → Bool
is_record_done run = all_list run (due_of run.setting.n run.faulty run.arrivals) (range_with_len 0 run.setting.n)

abbrev pub ended : Bool → Verdict
ended done = if done then Done else Stalled

abbrev pub collided_or_ended : Option CollidedAt → Bool → Verdict
collided_or_ended (Some at) done = Collided at
collided_or_ended None done = ended done

abbrev pub audited : Option ForgedAt → Option CollidedAt → Bool → Verdict
audited (Some at) collided done = Forged at
audited None collided done = collided_or_ended collided done

-- a forged seal comes before a collision, and both come before what was finalised
unfoldable pub verdict_of : Check → RunRecord → Verdict
verdict_of check run = audited (first_forged_of check run) (first_collision_of run) (is_record_done run)
