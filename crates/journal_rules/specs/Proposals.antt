-- Journals of the only replica of a run, to which blocks without transactions were proposed, and for each the entry
-- after it that breaks a rule.
use Rattle.std.specs.Prelude.{◌≡◌, ◌≢◌, ℕ, ◌+◌, List, [], ◌∷◌, All}
use Rattle.std.specs.List.{AllPairs}
use Rattle.seq_base.specs.declared.block.Block.{Block}
use Rattle.seq_base.specs.declared.block.Cert.{Cert}
use Rattle.seq_base.specs.declared.message.Message.{Message}
use Rattle.seq_base.specs.declared.message.Message.TheVariants as messages
use Rattle.seq_base.specs.Blocks.{first_cert, first_digest}
use Rattle.seq_base.specs.Setting.{parameters}
use Rattle.seq_base.specs.Spelling.{message_spelling, vote_spelling}
use Rattle.seq_base.specs.Writable.{IsWritableBlock}
use Rattle.block_store.specs.Store.{block_digest}
use Rattle.node_core.specs.declared.event.Event.TheVariants.{Deliver}
use Rattle.node_core.specs.declared.event.Reason.TheVariants.{Done}
use Rattle.node_core.specs.declared.entry.Entry.{Entry}
use Rattle.journal_rules.specs.Examples.{all_fit, entry}
use Rattle.journal_rules.specs.Rules.{Scale, IsValidIn}

-- Every seal fits, and nothing arrives.
abbrev pub of_one : Scale
of_one = record { fits = all_fit; setting = parameters 1 0 1 1; replica = 0; arrivals = [] }

-- a block of this view over the block that a certificate names
abbrev pub block_over : Cert → ℕ → Block
block_over cert view = record {
  view = view;
  cert = cert;
  orders = record { order = record { replica = 0; view = view; parent = cert.block; fresh = []; late = [] }; seal = [] } ∷ [];
}

-- over the first block
abbrev pub child : ℕ → Block
child view = block_over first_cert view

-- the certificate made of the replica's vote for a block
abbrev pub cert_of : Block → Cert
cert_of b = record { view = b.view; block = block_digest b; votes = record { replica = 0; seal = [] } ∷ [] }

-- the child, in view 2, of the child of view 1
abbrev pub grandchild : Block
grandchild = block_over (cert_of (child 1)) 2

-- A message was delivered, and these statements were sealed.
abbrev pub done : Message → List (List ℕ) → Entry
done message sealed = entry (Deliver 0 (message_spelling message)) Done 0 sealed

-- a block is proposed, without a vote for it and with one
abbrev pub proposed : Block → Entry
proposed b = done (messages.Propose 0 b []) []

abbrev pub voted_for : Block → Entry
voted_for b = done (messages.Propose 0 b []) (vote_spelling 0 b.view (block_digest b) ∷ [])

-- a NewView for the next view that carries the certificate of a block
abbrev pub called_with : Block → Entry
called_with b = done (messages.NewView 0 (b.view + 1) (cert_of b) []) []

-- The child of view 1 is the lock, since the certificate of its child was accepted.
abbrev pub locked_on_child : List Entry
locked_on_child = proposed (child 1) ∷ proposed grandchild ∷ called_with grandchild ∷ []

-- The digests of these blocks are different, and none is the first block's.
pub record HaveOwnDigests (blocks : List Block) : Type 0 where
  pub differ : AllPairs (λ a b. block_digest a ≢ block_digest b) blocks
  pub others : All (λ b. block_digest b ≢ first_digest) blocks

-- Two different blocks, both valid children of the first block, have the same digest, and it is not the first block's.
pub record Collide (a b : Block) : Type 0 where
  pub one : IsWritableBlock a × IsValidIn of_one [] a
  pub other : IsWritableBlock b × IsValidIn of_one [] b
  pub differ : a ≢ b
  pub same : block_digest a ≡ block_digest b
  pub not_first : block_digest a ≢ first_digest
