-- Small traces that can be checked by hand.
use Rattle.std.specs.Prelude.{List, [], ◌∷◌, ◌++◌, replicate}
use Rattle.seq_base.specs.declared.tx.Tx.{Tx}
use Rattle.seal_kit.specs.declared.height.Height.TheVariants.{H5}
use Rattle.node_core.specs.declared.event.Event.TheVariants.{Arrived}
use Rattle.node_core.specs.declared.event.Reason.TheVariants.{Done}
use Rattle.run_record.specs.declared.record.Journal.{Journal}
use Rattle.run_record.specs.declared.record.RunRecord.{RunRecord}
use Rattle.journal_rules.specs.Examples.{five, tx, entry}
use Rattle.trace_form.specs.declared.keys.Keys.TheVariants.{Seed}
use Rattle.trace_form.specs.declared.opening.Span.{Span}

-- one view, and the smallest sealers
abbrev pub one_view : Span
one_view = record { views = 1; keys = Seed 0; height = H5 }

-- the journal of a replica at which a transaction arrived
abbrev pub hearing : Journal
hearing = record { entries = entry (Arrived (tx ∷ [])) Done 1 [] ∷ [] }

-- Five replicas, the last of which is faulty. A transaction arrived at each honest one, which finalised these batches.
abbrev pub heard : List (List Tx) → RunRecord
heard batches = record {
  setting = five;
  faulty = 4 ∷ [];
  arrivals = replicate 5 (tx ∷ []);
  journals = replicate 4 hearing ++ record { entries = [] } ∷ [];
  heads = replicate 5 (record { view = 0; commit = 0 });
  batches = replicate 4 batches ++ [] ∷ [];
  turns = 0;
  ticks = 0;
}
