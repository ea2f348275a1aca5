-- What holds of the committed chains of honest replicas, and of what is final at them.
use Rattle.std.specs.Prelude.{◌≡◌, ◌⊎◌, ℕ, ◌++◌, true}
use Rattle.seq_base.specs.declared.tx.Tx.{Tx}
use Rattle.seq_base.specs.Lists.{holds}
use Rattle.chain_laws.specs.Blocks.{Chain}
use Rattle.run_record.specs.Done.{is_finalised}
use Rattle.run_record.specs.declared.record.RunRecord.{RunRecord}
use Rattle.run_verdict.specs.Shown.{IsHonest}
use Rattle.journal_rules.specs.Records.{arrivals_in, batches_in}
use Rattle.headline_laws.specs.Records.{committed_in}

-- the first chain is a prefix of the other
abbrev pub IsChainPrefix : Chain → Chain → Type 0
IsChainPrefix one other = (more : Chain) × (other ≡ one ++ more)

-- The committed chains of honest replicas are prefixes of one another.
abbrev pub CommittedChainsAgree : RunRecord → Type 0
CommittedChainsAgree run = (i j : ℕ) → IsHonest run i → IsHonest run j
    → IsChainPrefix (committed_in run i) (committed_in run j) ⊎ IsChainPrefix (committed_in run j) (committed_in run i)

-- What an honest batch list holds is in the arrival list of an honest replica.
abbrev pub FinalsArrived : RunRecord → Type 0
FinalsArrived run = (i : ℕ) (t : Tx) → IsHonest run i → is_finalised (batches_in run i) t ≡ true
    → (r : ℕ) × IsHonest run r × (holds t (arrivals_in run r) ≡ true)
