-- Messages as they were read, and journals that record the outcome of each.
use Rattle.std.specs.Prelude.{ℕ, List, [], Bool, map}
use Rattle.seq_base.specs.declared.digest.Digest.{Digest}
use Rattle.seq_base.specs.declared.block.Cert.{Cert}
use Rattle.seq_base.specs.declared.order.SealedOrder.{SealedOrder}
use Rattle.seq_base.specs.Blocks.{first_digest}

-- a block under its digest
pub record Named : Type 0 where
  pub digest : Digest
  pub view : ℕ
  -- the certificate of its parent
  pub cert : Cert
  -- Nothing here looks at the orders. They are part of the block so that a chain of blocks gives its local orders.
  pub orders : List SealedOrder

-- the block from which all replicas start
abbrev pub first_block : Named
first_block = record { digest = first_digest; view = 0; cert = record { view = 0; block = first_digest; votes = [] }; orders = [] }

-- the replicas whose votes are in a certificate
abbrev pub voters_of : Cert → List ℕ
voters_of c = map (λ v. v.replica) c.votes

pub data Message : Type 0 where
  NewView : (cert : Cert) → Message
  Ask : (cert : Cert) → Message
  Propose : (block : Named) → Message
  Give : (block : Named) → Message
  Vote : (replica view : ℕ) (block : Digest) → Message
  -- a message of another kind, or another event
  Other : Message

-- a vote as its replica seals it
pub record Ballot : Type 0 where
  pub view : ℕ
  pub block : Digest

abbrev pub ballot : ℕ → Digest → Ballot
ballot view block = record { view = view; block = block }

-- what was delivered in a turn, and the outcome
pub record Entry : Type 0 where
  pub message : Message
  -- its reason is Done
  pub is_done : Bool
  -- the votes that the turn sealed
  pub sealed : List Ballot
