-- The lock and the commit of a replica's state, and those that a prefix of its journal shows.
use Rattle.std.specs.Prelude.{◌≡◌, ℕ, ◌≤◌, List, Some}
use Rattle.seq_base.specs.declared.block.Block.{Block}
use Rattle.seq_base.specs.Setting.{Parameters}
use Rattle.hotstuff_core.specs.Rules.{State as Safe}
use Rattle.agreement_laws.specs.Journals.{Entry as Shown}
use Rattle.agreement_laws.specs.JournalPrefixes.{stored, lock, commit}
use Rattle.journal_rules.specs.Stores.{at, IsTied}

-- They are the same, found in the stored blocks, which are those that the prefix shows. The lock's view is at most
-- `high`.
pub record SafeTied (s : Parameters) (store : List Block) (safe : Safe) (high : ℕ) (prefix : List Shown) : Type 0 where
  pub stores : IsTied store (stored prefix)
  pub at_lock : at store safe.lock ≡ Some (lock s prefix)
  pub at_commit : at store safe.committed ≡ Some (commit s prefix)
  pub low : (lock s prefix).view ≤ high
