-- Small records that can be checked by hand.
use Rattle.std.specs.Prelude.{List, [], ◌∷◌, replicate}
use Rattle.seq_base.specs.Setting.{Parameters}
use Rattle.seq_base.specs.Spelling.{message_spelling}
use Rattle.seq_base.specs.declared.tx.Tx.{Tx}
use Rattle.seq_base.specs.declared.block.Block.{Block}
use Rattle.seq_base.specs.declared.message.Message.TheVariants.{Give}
use Rattle.node_core.specs.declared.event.Event.TheVariants.{Deliver}
use Rattle.node_core.specs.declared.event.Reason.TheVariants.{Done}
use Rattle.node_core.specs.declared.entry.Entry.{Entry}
use Rattle.run_record.specs.declared.record.RunRecord.{RunRecord}

-- nothing was delivered to any of the replicas, and these transactions arrived at each
abbrev pub waiting : Parameters → List (List Tx) → RunRecord
waiting s arrivals = record {
  setting = s;
  faulty = [];
  arrivals = arrivals;
  journals = replicate s.n (record { entries = [] });
  heads = replicate s.n (record { view = 0; commit = 0 });
  batches = replicate s.n [];
  turns = 0;
  ticks = 0;
}

-- nothing arrived either
abbrev pub idle : Parameters → RunRecord
idle s = waiting s (replicate s.n [])

-- the entry of a replica that was given a block
abbrev pub given : Block → Entry
given block = record {
  event = Deliver 0 (message_spelling (Give block));
  turned = record { reason = Done; kept = 0; sealed = []; sends = [] };
}

-- two replicas, each of which was given one of the blocks and finalised another transaction
abbrev pub parted : Parameters → Block → Block → RunRecord
parted s a b = record {
  setting = s;
  faulty = [];
  arrivals = [] ∷ [] ∷ [];
  journals = record { entries = given a ∷ [] } ∷ record { entries = given b ∷ [] } ∷ [];
  heads = replicate 2 (record { view = 0; commit = 0 });
  batches = ((record { client = 1; number = 1; payload = 0 } ∷ []) ∷ []) ∷ ((record { client = 2; number = 1; payload = 0 } ∷ []) ∷ []) ∷ [];
  turns = 2;
  ticks = 0;
}
