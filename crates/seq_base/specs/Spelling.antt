-- The wire grammar: the unique encoding of each message, and which messages have one that can be read back. Numbers
-- are big-endian. A list follows its count. A number too wide for its field wraps.
use Rattle.std.specs.Prelude.{ℕ, List, [], ◌∷◌, ◌++◌, length, Option, Some, None}
use Rattle.std.specs.List.{flat_map}
use Rattle.std.specs.Int.{w8, w16, w32, w64, to_be_bytes}
use Rattle.seq_base.specs.declared.kinds.TheConstants.{VERSION, NEW_VIEW, ASK, ORDER, PROPOSE, VOTE, FETCH, GIVE}
use Rattle.seq_base.specs.declared.tx.Tx.{Tx}
use Rattle.seq_base.specs.declared.digest.Digest.{Digest}
use Rattle.seq_base.specs.declared.order.LocalOrder.{LocalOrder}
use Rattle.seq_base.specs.declared.order.SealedOrder.{SealedOrder}
use Rattle.seq_base.specs.declared.block.CertVote.{CertVote}
use Rattle.seq_base.specs.declared.block.Cert.{Cert}
use Rattle.seq_base.specs.declared.block.Block.{Block}
use Rattle.seq_base.specs.declared.message.Message.{Message}
use Rattle.seq_base.specs.declared.message.Message.TheVariants.{NewView, Ask, Order, Propose, Vote, Fetch, Give}

-- a transaction has 16 bytes
abbrev pub tx_spelling : Tx → List ℕ
tx_spelling t = to_be_bytes w32 t.client ++ to_be_bytes w32 t.number ++ to_be_bytes w64 t.payload

abbrev pub txs_spelling : List Tx → List ℕ
txs_spelling ts = to_be_bytes w16 (length ts) ++ flat_map tx_spelling ts

abbrev pub seal_spelling : List ℕ → List ℕ
seal_spelling bytes = to_be_bytes w16 (length bytes) ++ bytes

-- the statement that a replica seals when it votes for a block in a view
abbrev pub vote_spelling : ℕ → ℕ → Digest → List ℕ
vote_spelling replica view block = VOTE ∷ to_be_bytes w8 replica ++ to_be_bytes w32 view ++ block.0

abbrev pub cert_vote_spelling : CertVote → List ℕ
cert_vote_spelling v = to_be_bytes w8 v.replica ++ seal_spelling v.seal

abbrev pub cert_spelling : Cert → List ℕ
cert_spelling c = to_be_bytes w32 c.view ++ c.block.0 ++ to_be_bytes w8 (length c.votes) ++ flat_map cert_vote_spelling c.votes

-- the statement that a replica seals as its local order
abbrev pub order_spelling : LocalOrder → List ℕ
order_spelling o = ORDER ∷ to_be_bytes w8 o.replica ++ to_be_bytes w32 o.view ++ o.parent.0 ++ txs_spelling o.fresh ++ txs_spelling o.late

abbrev pub sealed_order_spelling : SealedOrder → List ℕ
sealed_order_spelling s = order_spelling s.order ++ seal_spelling s.seal

-- the bytes whose digest is the block's digest
abbrev pub block_spelling : Block → List ℕ
block_spelling b = to_be_bytes w32 b.view ++ cert_spelling b.cert ++ to_be_bytes w8 (length b.orders) ++ flat_map sealed_order_spelling b.orders

-- the statement that a replica seals to ask to lead a view (kind NEW_VIEW), or to ask for local orders (kind ASK)
abbrev pub call_spelling : ℕ → ℕ → ℕ → Cert → List ℕ
call_spelling kind replica view cert = kind ∷ to_be_bytes w8 replica ++ to_be_bytes w32 view ++ cert_spelling cert

-- the statement that a leader seals as its proposal
abbrev pub propose_spelling : ℕ → Block → List ℕ
propose_spelling replica block = PROPOSE ∷ to_be_bytes w8 replica ++ block_spelling block

abbrev pub carried_spelling : Option SealedOrder → List ℕ
carried_spelling None = 0 ∷ []
carried_spelling (Some s) = 1 ∷ sealed_order_spelling s

-- every message starts with the version
abbrev pub message_spelling : Message → List ℕ
message_spelling (NewView replica view cert seal) = VERSION ∷ call_spelling NEW_VIEW replica view cert ++ seal_spelling seal
message_spelling (Ask replica view cert seal) = VERSION ∷ call_spelling ASK replica view cert ++ seal_spelling seal
message_spelling (Order s) = VERSION ∷ sealed_order_spelling s
message_spelling (Propose replica block seal) = VERSION ∷ propose_spelling replica block ++ seal_spelling seal
message_spelling (Vote v order) = VERSION ∷ vote_spelling v.replica v.view v.block ++ seal_spelling v.seal ++ carried_spelling order
message_spelling (Fetch block) = VERSION ∷ FETCH ∷ block.0
message_spelling (Give block) = VERSION ∷ GIVE ∷ block_spelling block
