-- The first forged seal of a run.
use Rattle.std.specs.Prelude.{ℕ, List, [], Bool, ◌&&◌, not, Option, Some, None, if◌then◌else◌}
use Rattle.std.specs.List.{enumerate_from}
use Rattle.wire_view.specs.declared.messages.MessageView.{MessageView}
use Rattle.node_core.specs.declared.entry.Entry.{Entry}
use Rattle.run_record.specs.declared.record.Journal.{Journal}
use Rattle.run_record.specs.declared.record.RunRecord.{RunRecord}
use Rattle.run_record.specs.declared.verdict.ForgedAt.{ForgedAt}
use Rattle.run_record.specs.Honest.{honest_items}
use Rattle.node_core.specs.Rows.{Check}
use Rattle.run_verdict.specs.First.{first_of, counted}
use Rattle.run_verdict.specs.Delivered.{honest_in, delivered}
use Rattle.run_verdict.specs.Sealed.{was_sealed}
use Rattle.run_verdict.specs.Parts.{Part, parts_of}

-- whether the seal of an honest replica fits a statement that no entry of its journal sealed
abbrev pub is_forged : Check → RunRecord → Part → Bool
is_forged check run p = (honest_in run p.signer && not (was_sealed run.journals p.signer p.statement)) && check p.signer p.statement p.seal

-- the place of a part under its number, if it is forged
abbrev pub forged_part : Check → RunRecord → ℕ → ℕ → ℕ × Part → Option ForgedAt
forged_part check run receiver entry p =
    if is_forged check run p.1 then Some (record { receiver = receiver; entry = entry; part = p.0; signer = p.1.signer }) else None

-- the first forged one of these parts, the first of which has this number
unfoldable pub forged_from : Check → RunRecord → ℕ → ℕ → ℕ → List Part → Option ForgedAt
forged_from check run receiver entry number parts = first_of (forged_part check run receiver entry) (enumerate_from number parts)

abbrev pub parts_in : Option MessageView → List Part
parts_in None = []
parts_in (Some message) = parts_of message

-- the first forged part of what an entry delivered, by the entry's number
unfoldable pub forged_in_entry : Check → RunRecord → ℕ → ℕ × Entry → Option ForgedAt
forged_in_entry check run receiver entry = forged_from check run receiver (counted entry.0) 0 (parts_in (delivered entry.1))

-- the first in the entries of a replica, by the number of the first entry
unfoldable pub forged_in_journal : Check → RunRecord → ℕ × Journal → Option ForgedAt
forged_in_journal check run journal = first_of (forged_in_entry check run journal.0) (enumerate_from 0 journal.1.entries)

-- The first place in what honest replicas were delivered that has the seal of an honest replica for a statement that no
-- entry of its journal sealed. Places are in ascending order of receivers, then entries, then parts.
unfoldable pub first_forged_of : Check → RunRecord → Option ForgedAt
first_forged_of check run = first_of (forged_in_journal check run) (honest_items (honest_in run) 0 run.journals)
