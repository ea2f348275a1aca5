-- What is written of each replica in turn.
use Rattle.std.specs.Prelude.{ℕ, List, [], if◌then◌else◌}
use Rattle.std.specs.Int.{w8, to_be_bytes}
use Rattle.count_set.specs.Sets.{is_among}
use Rattle.run_record.specs.declared.record.RunRecord.{RunRecord}
use Rattle.trace_form.specs.Contents.{held_of}
use Rattle.trace_form.specs.Spelling.{account_spelling}

-- its number, if it is a member
abbrev pub member_text : List ℕ → ℕ → List ℕ
member_text members replica = if is_among members replica then to_be_bytes w8 replica else []

-- what the record has of it, if it is honest
abbrev pub account_text : RunRecord → ℕ → List ℕ
account_text run replica = if is_among run.faulty replica then [] else account_spelling (held_of run replica)
