-- The text of a run: its setting, its length, the state of each honest replica, and how it ended.
use Rattle.std.specs.Prelude.{ℕ, Bool, true, false, not, List, [], ◌++◌, length, filter, sum_by, slice_get, Option, Some, None}
use Rattle.std.specs.List.{flat_map, range_with_len}
use Rattle.seq_base.specs.declared.tx.Tx.{Tx}
use Rattle.count_set.specs.Sets.{is_among}
use Rattle.run_record.specs.declared.record.Head.{Head}
use Rattle.run_record.specs.declared.record.RunRecord.{RunRecord}
use Rattle.run_record.specs.declared.verdict.Verdict.{Verdict}
use Rattle.report_text.specs.Lines.{setting_line, length_line, head_text, batch_count_text, transaction_count_text, end_line}
use Rattle.report_text.specs.OrderPrint.{batch_lines}

-- how many batches and how many transactions
abbrev pub amounts_text : List (List Tx) → List ℕ
amounts_text batches = batch_count_text (length batches) ++ transaction_count_text (sum_by length batches)

-- the batches, unless a summary is asked for
abbrev pub shown_text : Bool → List (List Tx) → List ℕ
shown_text true batches = []
shown_text false batches = batch_lines 1 batches

-- the state of a replica, and what it has finalised
abbrev pub standing_text : Bool → ℕ → Head → List (List Tx) → List ℕ
standing_text summary replica head batches = head_text replica head ++ amounts_text batches ++ shown_text summary batches

-- the same for a replica that has a head and batches
abbrev pub found_text : Bool → ℕ → Option Head → Option (List (List Tx)) → List ℕ
found_text summary replica None batches = []
found_text summary replica (Some head) None = []
found_text summary replica (Some head) (Some batches) = standing_text summary replica head batches

-- the replica of a run
abbrev pub replica_text_in : RunRecord → Bool → ℕ → List ℕ
replica_text_in run summary replica = found_text summary replica (slice_get run.heads replica) (slice_get run.batches replica)

-- the replicas that are not faulty, in ascending order
abbrev pub honest_in : RunRecord → List ℕ
honest_in run = filter (λ r. not (is_among run.faulty r)) (range_with_len 0 run.setting.n)

-- the text of a run with this verdict
abbrev pub record_text_of : RunRecord → Verdict → Bool → List ℕ
record_text_of run verdict summary =
    setting_line run.setting ++ length_line run.ticks run.turns
    ++ flat_map (replica_text_in run summary) (honest_in run)
    ++ end_line verdict
