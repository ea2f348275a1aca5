-- The sealed parts of a message, in their order: the votes of its certificate, the local orders of its block, its own
-- statement, and the local order that a vote carries. A kind of part that a message lacks is skipped.
use Rattle.std.specs.Prelude.{ℕ, List, [], ◌∷◌, ◌++◌, Option, Some, None, map}
use Rattle.seq_base.specs.declared.order.SealedOrder.{SealedOrder}
use Rattle.seq_base.specs.declared.block.CertVote.{CertVote}
use Rattle.seq_base.specs.declared.block.Cert.{Cert}
use Rattle.seq_base.specs.declared.block.Block.{Block}
use Rattle.seq_base.specs.Spelling.{call_spelling, order_spelling, propose_spelling, vote_spelling}
use Rattle.wire_view.specs.Views.{Call, Proposed, Voted}
use Rattle.wire_view.specs.declared.messages.MessageView.{MessageView}
use Rattle.wire_view.specs.declared.messages.MessageView.TheVariants.{NewView, Ask, Order, Propose, Vote, Fetch, Give}

-- a seal, and the replica and the statement that it is for
pub record Part : Type 0 where
  pub signer : ℕ
  pub statement : List ℕ
  pub seal : List ℕ

abbrev pub part : ℕ → List ℕ → List ℕ → Part
part signer statement seal = record { signer = signer; statement = statement; seal = seal }

-- a vote of a certificate is for the certificate's view and block
abbrev pub vote_part : Cert → CertVote → Part
vote_part c v = part v.replica (vote_spelling v.replica c.view c.block) v.seal

abbrev pub cert_parts : Cert → List Part
cert_parts c = map (vote_part c) c.votes

abbrev pub order_part : SealedOrder → Part
order_part s = part s.order.replica (order_spelling s.order) s.seal

abbrev pub block_parts : Block → List Part
block_parts b = cert_parts b.cert ++ map order_part b.orders

abbrev pub call_parts : Call → List Part
call_parts c = cert_parts c.cert ++ part c.replica (call_spelling c.kind c.replica c.view c.cert) c.seal ∷ []

abbrev pub propose_parts : Proposed → List Part
propose_parts p = block_parts p.block ++ part p.replica (propose_spelling p.replica p.block) p.seal ∷ []

abbrev pub carried_parts : Option SealedOrder → List Part
carried_parts None = []
carried_parts (Some s) = order_part s ∷ []

abbrev pub vote_parts : Voted → List Part
vote_parts v = part v.vote.replica (vote_spelling v.vote.replica v.vote.view v.vote.block) v.vote.seal ∷ carried_parts v.order

abbrev pub parts_of : MessageView → List Part
parts_of (NewView c) = call_parts c
parts_of (Ask c) = call_parts c
parts_of (Order s) = order_part s ∷ []
parts_of (Propose p) = propose_parts p
parts_of (Vote v) = vote_parts v
parts_of (Fetch digest) = []
parts_of (Give block) = block_parts block
