-- The state of one pass over a journal, after the entries that it has checked.
use Rattle.std.specs.Prelude.{ℕ, List, []}
use Rattle.seq_base.specs.declared.tx.Tx.{Tx}
use Rattle.seq_base.specs.declared.block.Block.{Block}
use Rattle.seq_base.specs.declared.digest.Digest.{Digest}
use Rattle.seq_base.specs.Setting.{Parameters}
use Rattle.chain_store.specs.Chains.{Stored}
use Rattle.hotstuff_core.specs.Rules.{State as Safe, opening}

pub record Audited : Type 0 where
  pub setting : Parameters
  -- the replica whose journal it is
  pub replica : ℕ
  pub arrivals : List Tx
  -- the count of those that arrived
  pub kept : ℕ
  -- the stored blocks
  pub store : List Block
  -- the view of the last vote, the lock and the commit
  pub safety : Safe
  -- the replicas whose votes were delivered, by block
  pub voters : List (Digest × List ℕ)
  -- the kinds and views of the statements that were sealed
  pub marks : List (ℕ × ℕ)

-- the state before the first entry
abbrev pub nothing_audited : Parameters → ℕ → List Tx → Audited
nothing_audited s replica arrivals =
    record { setting = s; replica = replica; arrivals = arrivals; kept = 0; store = []; safety = opening; voters = []; marks = [] }

-- the stored blocks, with the setting of their chains
abbrev pub stored_of : Audited → Stored
stored_of j = record { setting = j.setting; blocks = j.store }
