-- How a replica votes, locks and commits (HotStuff, PODC 2019), over the blocks that it has stored.
use Rattle.std.specs.Prelude.{ℕ, ◌+◌, List, Bool, false, ◌&&◌, ◌||◌, ◌==◌, nat_lt, Option, Some, None, is_some, unwrap_or, if◌then◌else◌}
use Rattle.std.specs.Option.{option_map_or, option_and_then}
use Rattle.seq_base.specs.declared.digest.Digest.{Digest}
use Rattle.seq_base.specs.declared.block.Block.{Block}
use Rattle.seq_base.specs.Blocks.{first_digest, block_eq}
use Rattle.block_store.specs.Store.{block_at, view_of}
use Rattle.block_store.specs.Chains.{parent_of, extends}
use Rattle.hotstuff_core.specs.declared.safety.Seen.{Seen}

-- the view of the last vote, the lock and the committed block
pub record State : Type 0 where
  pub voted : ℕ
  pub lock : Digest
  pub committed : Digest

abbrev pub opening : State
opening = record { voted = 0; lock = first_digest; committed = first_digest }

-- the view of a stored block; that of the first block, and of a block that is not stored, is 0
abbrev pub view_at : List Block → Digest → ℕ
view_at store digest = unwrap_or (view_of store digest) 0

-- the block is stored under the digest
abbrev pub is_at : List Block → Digest → Block → Bool
is_at store digest block = option_map_or (λ stored. block_eq stored block) (block_at store digest) false

-- The certificate's view is above the lock's view, or the block extends the lock: its parent does, or it is the lock.
abbrev pub is_safe : List Block → State → Block → Bool
is_safe store s block = nat_lt (view_at store s.lock) block.cert.view || (extends store block.cert.block s.lock || is_at store s.lock block)

abbrev pub may_vote : List Block → State → Block → Bool
may_vote store s block = nat_lt s.voted block.view && is_safe store s block

abbrev pub voted_in : ℕ → State → State
voted_in view s = record s { voted = view }

-- `next`, if there is one and its view is above that of `so_far`, the current lock or committed block. None: no change.
abbrev pub moved : List Block → Digest → Option Digest → Option Digest
moved store so_far next = option_and_then (λ d. if nat_lt (view_at store so_far) (view_at store d) then Some d else None) next

-- consecutive views
abbrev pub is_next : ℕ → ℕ → Bool
is_next view next = next == view + 1

abbrev pub head_if : List Block → ℕ → Digest → Digest → Option Digest
head_if store view parent head = if is_next (view_at store parent) view && is_next (view_at store head) (view_at store parent) then Some head else None

-- the block's grandparent, if the block, which is of this view, its parent and its grandparent have consecutive views
abbrev pub head_of : List Block → ℕ → Digest → Option Digest
head_of store view block = option_and_then (λ parent. option_and_then (head_if store view parent) (parent_of store parent)) (parent_of store block)

-- the new lock after a certificate for the block, or None if the lock stays; and the same for the committed block
abbrev pub next_lock : List Block → Digest → State → Option Digest
next_lock store block s = moved store s.lock (parent_of store block)

abbrev pub next_commit : List Block → ℕ → Digest → State → Option Digest
next_commit store view block s = moved store s.committed (head_of store view block)

-- the state after a certificate for the block in the view is seen
abbrev pub seen_in : List Block → ℕ → Digest → State → State
seen_in store view block s = record {
  voted = s.voted;
  lock = unwrap_or (next_lock store block s) s.lock;
  committed = unwrap_or (next_commit store view block s) s.committed;
}

abbrev pub seen_answer : List Block → ℕ → Digest → State → Seen
seen_answer store view block s = record { lock = is_some (next_lock store block s); committed = next_commit store view block s }
