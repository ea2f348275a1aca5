-- What the entries of journals delivered.
use Rattle.std.specs.Prelude.{ℕ, Bool, Option}
use Rattle.std.specs.Option.{option_and_then}
use Rattle.seq_base.specs.declared.block.Block.{Block}
use Rattle.wire_view.specs.declared.messages.MessageView.{MessageView}
use Rattle.node_core.specs.declared.entry.Entry.{Entry}
use Rattle.run_record.specs.declared.record.RunRecord.{RunRecord}
use Rattle.node_core.specs.Delivered.{message_in, block_in}
use Rattle.run_record.specs.Honest.{is_honest}

-- whether a replica is honest in a run
abbrev pub honest_in : RunRecord → ℕ → Bool
honest_in run replica = is_honest run.setting.n run.faulty replica

abbrev pub delivered : Entry → Option MessageView
delivered entry = message_in entry.event

abbrev pub delivered_block : Entry → Option Block
delivered_block entry = option_and_then block_in (delivered entry)
