-- What holds of the final lists where the logs show in which order two transactions were received.
use Rattle.std.specs.Prelude.{◌≡◌, ◌⊎◌, ℕ, ◌≤◌, List, Bool}
use Rattle.seq_base.specs.declared.tx.Tx.{Tx}
use Rattle.batch_laws.specs.Batches.{StandsIn}
use Rattle.chain_laws.specs.Proposed.{IsProposedAt, IsSolidAt}
use Rattle.run_record.specs.declared.record.RunRecord.{RunRecord}
use Rattle.run_verdict.specs.Shown.{IsHonest}
use Rattle.journal_rules.specs.Records.{arrivals_in, batches_in}
use Rattle.headline_laws.specs.Records.{faulty_in, committed_in}
use Rattle.intake_laws.specs.Past.{Call}
use Rattle.intake_laws.specs.Premises.{History, AreInOrder, arrivals_of, lifetime_of}
use Rattle.intake_laws.specs.OneLifetime.{AreHeardInOrder}

-- The arrival lists of the run are what arrived at the desks.
abbrev pub ArriveBy : RunRecord → History → Type 0
ArriveBy run history = (r : ℕ) → IsHonest run r → arrivals_in run r ≡ arrivals_of run.setting history r

-- The logs of a run's replicas show that a was received before b.
pub record ShowInOrder (run : RunRecord) (a b : Tx) : Type 0 where
  pub late : ℕ → Bool
  pub history : History
  pub stamp : ℕ → ℕ
  pub arrive : ArriveBy run history
  pub in_order : AreInOrder run.setting (faulty_in run) late history stamp a b

-- The same where no replica restarted: every honest replica received b after it had heard all receipts of a.
pub record ShowHeardInOrder (run : RunRecord) (a b : Tx) : Type 0 where
  pub log : ℕ → List Call
  pub stamp : ℕ → ℕ
  pub arrive : (r : ℕ) → IsHonest run r → arrivals_in run r ≡ (lifetime_of run.setting r (log r)).arrivals
  pub in_order : AreHeardInOrder run.setting (faulty_in run) log stamp a b

-- No honest list holds b before a, where b was solid in the proposal that holds it, or a is in that proposal too: a list
-- that holds b holds a in the batch of b or in an earlier one.
abbrev pub NoListReverses : RunRecord → Tx → Tx → Type 0
NoListReverses run a b = (r number j : ℕ) → IsHonest run r → StandsIn (batches_in run r) j b → IsProposedAt run.setting (committed_in run r) number b
    → IsSolidAt run.setting (committed_in run r) number b ⊎ IsProposedAt run.setting (committed_in run r) number a
    → (i : ℕ) × StandsIn (batches_in run r) i a × (i ≤ j)
