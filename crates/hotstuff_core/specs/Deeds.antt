-- The steps of a replica that follows `Rules`, each over the blocks that it has stored at that step, and its votes.
use Rattle.std.specs.Prelude.{◌≡◌, ℕ, ◌<◌, ◌≤◌, List, [], ◌∷◌, Some, Bool, true, ⊤, All}
use Rattle.std.specs.List.{AllPairs}
use Rattle.seq_base.specs.declared.digest.Digest.{Digest}
use Rattle.seq_base.specs.declared.block.Block.{Block}
use Rattle.seq_base.specs.Blocks.{first_digest}
use Rattle.block_store.specs.Store.{block_digest, block_at, is_stored, view_of}
use Rattle.block_store.specs.Chains.{parent_of}
use Rattle.block_store.specs.Entries.{IsStore}
use Rattle.hotstuff_core.specs.History.{Vote, History, IsAncestor}
use Rattle.hotstuff_core.specs.Facts.{MeetsRule}
use Rattle.hotstuff_core.specs.Rules.{State, view_at, may_vote, voted_in, seen_in}

-- One step of a replica that follows the rules (not a deed of a plan, which only a faulty replica does). `store` holds
-- the blocks that are stored at that step. Sees: the replica processes a certificate for `block` in `view`. Votes: it
-- votes for `block`, and then processes the certificate in it.
pub data Deed : Type 0 where
  Sees : (store : List Block) → (view : ℕ) → (block : Digest) → Deed
  Votes : (store : List Block) → (block : Block) → Deed

-- the history of a store's blocks, named by their digests
abbrev pub history_in : List Block → (ℕ → Bool) → (ℕ → List (Vote Digest)) → History Digest
history_in store faulty votes = record { first = first_digest; view = view_at store; parent = parent_of store; faulty = faulty; votes = votes }

-- the vote of a replica in this state
abbrev pub vote_for : State → Block → Vote Digest
vote_for s block = record { view = block.view; block = block_digest block; lock = s.lock }

-- the state after a vote
abbrev pub after_vote : List Block → Block → State → State
after_vote store block s = seen_in store block.cert.view block.cert.block (voted_in block.view s)

abbrev pub votes_by : State → List Deed → List (Vote Digest)
votes_by s [] = []
votes_by s (Deed.Sees store view block ∷ deeds) = votes_by (seen_in store view block s) deeds
votes_by s (Deed.Votes store block ∷ deeds) = vote_for s block ∷ votes_by (after_vote store block s) deeds

-- What is found in a store is found in a later one.
abbrev pub IsLater : List Block → List Block → Type 0
IsLater store later = (digest : Digest) (block : Block) → block_at store digest ≡ Some block → block_at later digest ≡ Some block

-- the store in which a replica in this state acts, and a later one
pub record IsAt (store later : List Block) (s : State) : Type 0 where
  pub is_store : IsStore store
  pub grows : IsLater store later
  pub has_lock : is_stored store s.lock ≡ true

-- Each certificate seen names a stored block with its view. Each block voted for may be voted for, and is stored in the
-- last store.
abbrev pub AreByRules : List Block → State → List Deed → Type 0
AreByRules later s [] = ⊤
AreByRules later s (Deed.Sees store view block ∷ deeds) =
    IsAt store later s × (view_of store block ≡ Some view) × AreByRules later (seen_in store view block s) deeds
AreByRules later s (Deed.Votes store block ∷ deeds) =
    IsAt store later s × (view_of store block.cert.block ≡ Some block.cert.view) × (block_at later (block_digest block) ≡ Some block)
    × (may_vote store s block ≡ true)
    × AreByRules later (after_vote store block s) deeds

-- The facts of `IsLawfulHistory` on the votes of a single replica, without `above_lock`, and without those on the validity
-- of blocks (`parent_below`, `parent_certified`).
pub record KeepsFacts (h : History Digest) (votes : List (Vote Digest)) : Type 0 where
  pub own_view : All (λ v. h.view v.block ≡ v.view) votes
  pub ascending : AllPairs (λ earlier later. earlier.view < later.view) votes
  pub by_rule : All (MeetsRule h) votes
  pub lock_kept : AllPairs (λ earlier later. (g : Digest) → IsAncestor h 2 earlier.block g → h.view g ≤ h.view later.lock) votes
