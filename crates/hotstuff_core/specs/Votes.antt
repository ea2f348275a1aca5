-- The votes of all replicas, and three-chains in a store's history.
use Rattle.std.specs.Prelude.{◌≡◌, ℕ, List, Bool, Some}
use Rattle.seq_base.specs.declared.digest.Digest.{Digest}
use Rattle.seq_base.specs.declared.block.Block.{Block}
use Rattle.block_store.specs.Entries.{IsStore}
use Rattle.block_store.specs.Store.{view_of}
use Rattle.hotstuff_core.specs.Deeds.{IsLater, history_in}
use Rattle.hotstuff_core.specs.History.{Vote, IsThreeChain}
use Rattle.hotstuff_core.specs.Rules.{State, next_commit}

-- the votes of each replica, in their order
abbrev pub AllVotes : Type 0
AllVotes = ℕ → List (Vote Digest)

-- the claim, if a replica in this state sees a certificate for the block and commits the head, and `later` is a later
-- store
abbrev pub WhereCommitted : List Block → List Block → State → ℕ → Digest → Digest → Type 0 → Type 0
WhereCommitted store later s view block head claim =
    IsStore store → IsLater store later → view_of store block ≡ Some view → next_commit store view block s ≡ Some head → claim

-- in the store's history, it is the head of a three-chain that ends with the block
abbrev pub IsHead : List Block → (ℕ → Bool) → AllVotes → Digest → Digest → Type 0
IsHead store faulty votes head block = (p : Digest) × IsThreeChain (history_in store faulty votes) head p block
