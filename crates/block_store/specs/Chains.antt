-- Parent relations over stored blocks (HotStuff, PODC 2019).
use Rattle.std.specs.Prelude.{◌≡◌, ℕ, zero, suc, List, [], ◌∷◌, ◌++◌, length, Bool, false, ◌&&◌, ◌||◌, Option, Some}
use Rattle.std.specs.Option.{option_map, option_map_or}
use Rattle.seq_base.specs.declared.digest.Digest.{Digest}
use Rattle.seq_base.specs.declared.block.Block.{Block}
use Rattle.seq_base.specs.Blocks.{digest_eq}
use Rattle.block_store.specs.Store.{block_at, is_stored}

-- the block that a stored block's certificate names; the first block has no parent
abbrev pub parent_of : List Block → Digest → Option Digest
parent_of store digest = option_map (λ b. b.cert.block) (block_at store digest)

-- whether at most this many parent steps lead from one block to another
abbrev pub reaches : ℕ → List Block → Digest → Digest → Bool
reaches zero store from to = digest_eq from to
reaches (suc steps) store from to = digest_eq from to || option_map_or (λ parent. reaches steps store parent to) (parent_of store from) false

-- Parent steps lead from the child to the ancestor: at most as many as there are stored blocks.
abbrev pub extends : List Block → Digest → Digest → Bool
extends store child ancestor = is_stored store child && reaches (length store) store child ancestor

-- the last digests of the chain that ends with this block, oldest first: this many, or the whole chain if it is shorter;
-- the first block is never among them
abbrev pub following : ℕ → List Block → Digest → List Digest
following zero store digest = []
following (suc steps) store digest = option_map_or (λ parent. following steps store parent ++ digest ∷ []) (parent_of store digest) []

-- the chain of a block, from the first block's child on
abbrev pub chain_of : List Block → Digest → List Digest
chain_of store digest = following (length store) store digest

-- This many parent steps lead from one block to another.
abbrev pub Leads : List Block → ℕ → Digest → Digest → Type 0
Leads store zero from to = from ≡ to
Leads store (suc steps) from to = (parent : Digest) × (parent_of store from ≡ Some parent) × Leads store steps parent to

-- Parent steps, zero or more, lead from the child to the ancestor.
abbrev pub Extends : List Block → Digest → Digest → Type 0
Extends store child ancestor = (steps : ℕ) × Leads store steps child ancestor

-- Each is the child of the one before it, from the child of `first` to `last`.
abbrev pub Follow : List Block → Digest → List Digest → Digest → Type 0
Follow store first [] last = first ≡ last
Follow store first (next ∷ digests) last = (parent_of store next ≡ Some first) × Follow store next digests last
