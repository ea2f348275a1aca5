-- Data on the replicas that is computed from the record of a run.
use Rattle.std.specs.Prelude.{ℕ, List, map, Bool}
use Rattle.seq_base.specs.declared.order.SealedOrder.{SealedOrder}
use Rattle.count_set.specs.Sets.{is_among}
use Rattle.agreement_laws.specs.JournalPrefixes.{committed_chain}
use Rattle.agreement_laws.specs.Journals.{Named}
use Rattle.run_record.specs.declared.record.RunRecord.{RunRecord}
use Rattle.journal_rules.specs.Records.{journal_in}
use Rattle.journal_rules.specs.Shown.{shown}

-- the faulty replicas
abbrev pub faulty_in : RunRecord → ℕ → Bool
faulty_in run = is_among run.faulty

-- the local orders of each block of a replica's committed chain, from the first block's child
abbrev pub committed_in : RunRecord → ℕ → List (List SealedOrder)
committed_in run replica = map (λ (n : Named). n.orders) (committed_chain run.setting (map shown (journal_in run replica)))
