-- What holds of the batches that honest replicas finalise. All clauses are about lists of batches. Fairness is also
-- about which replica received what, the proposal that holds a transaction, and how many fresh lists hold it there.
use Rattle.std.specs.Prelude.{◌≡◌, ℕ, ◌≤◌, List, ◌++◌, ◌⊎◌}
use Rattle.seq_base.specs.declared.tx.Tx.{Tx}
use Rattle.seq_base.specs.Lists.{AreDistinct}
use Rattle.batch_laws.specs.Batches.{StandsIn}
use Rattle.chain_state.specs.Proposals.{joined}
use Rattle.chain_laws.specs.Chain.{IsFinalised, batch_list}
use Rattle.chain_laws.specs.Received.{Received}
use Rattle.chain_laws.specs.Blocks.{placed}
use Rattle.chain_laws.specs.Proposed.{IsProposedAt, IsSolidAt}
use Rattle.run_record.specs.declared.record.RunRecord.{RunRecord}
use Rattle.run_verdict.specs.Shown.{IsHonest}
use Rattle.journal_rules.specs.Records.{arrivals_in, batches_in}
use Rattle.headline_laws.specs.Records.{faulty_in, committed_in}

-- the first list of batches is a prefix of the other
abbrev pub Begins : List (List Tx) → List (List Tx) → Type 0
Begins one other = (rest : List (List Tx)) × (other ≡ one ++ rest)

-- Honest batch lists are prefixes of one another.
abbrev pub Agree : RunRecord → Type 0
Agree run = (i j : ℕ) → IsHonest run i → IsHonest run j
    → Begins (batches_in run i) (batches_in run j) ⊎ Begins (batches_in run j) (batches_in run i)

-- No honest batch list holds a transaction in two batches, nor twice in one.
pub record Once (run : RunRecord) : Type 0 where
  pub one_batch : (r i j : ℕ) (t : Tx) → IsHonest run r → StandsIn (batches_in run r) i t → StandsIn (batches_in run r) j t → i ≡ j
  pub distinct : (r : ℕ) → IsHonest run r → AreDistinct (joined (batches_in run r))

-- Each honest batch list has the batches of the committed chain's complete proposals, before the first incomplete one.
abbrev pub Complete : RunRecord → Type 0
Complete run = (r : ℕ) → IsHonest run r
    → (finals : List (List (List Tx))) × IsFinalised run.setting (placed run.setting (committed_in run r)) finals × (batches_in run r ≡ batch_list finals)

-- If enough replicas received a before b, and an honest batch list holds b, and b is solid in the block of the
-- committed chain that proposes it or shares that proposal with a, then the list holds a in the batch of b or in an
-- earlier one.
abbrev pub Fair : RunRecord → Type 0
Fair run = (r number j : ℕ) (a b : Tx) → IsHonest run r → Received run.setting (faulty_in run) (arrivals_in run) a b
    → StandsIn (batches_in run r) j b → IsProposedAt run.setting (committed_in run r) number b
    → IsSolidAt run.setting (committed_in run r) number b ⊎ IsProposedAt run.setting (committed_in run r) number a
    → (i : ℕ) × StandsIn (batches_in run r) i a × (i ≤ j)

-- The headline on the batches of a run: it holds if the record shows no forged seal and no two blocks of equal digest.
pub record IsOrdered (run : RunRecord) : Type 0 where
  pub agree : Agree run
  pub once : Once run
  pub complete : Complete run
  pub fair : Fair run
