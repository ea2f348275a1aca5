-- Whether certificates, votes and blocks are good, given the stored blocks.
use Rattle.std.specs.Prelude.{ℕ, List, length, Bool, false, ◌&&◌, ◌==◌, nat_lt}
use Rattle.std.specs.List.{list_all}
use Rattle.std.specs.Option.{option_map_or}
use Rattle.seq_base.specs.declared.block.Block.{Block}
use Rattle.seq_base.specs.declared.block.Cert.{Cert}
use Rattle.seq_base.specs.declared.digest.Digest.{Digest}
use Rattle.seq_base.specs.declared.order.LocalOrder.{LocalOrder}
use Rattle.seq_base.specs.declared.order.SealedOrder.{SealedOrder}
use Rattle.seq_base.specs.Blocks.{digest_eq}
use Rattle.seq_base.specs.Setting.{quorum_of}
use Rattle.seq_base.specs.Spelling.{vote_spelling}
use Rattle.block_store.specs.Store.{view_of}
use Rattle.chain_state.specs.Standings.{fits as fits_chain}
use Rattle.chain_store.specs.Chains.{Stored, chain_state_of}
use Rattle.quorum_cert.specs.Certificates.{is_good}
use Rattle.wire_view.specs.Views.{Voted}
use Rattle.node_core.specs.Rows.{Check, is_sealed}

-- a block of this view is stored under the digest
abbrev pub has_view : List Block → Digest → ℕ → Bool
has_view store d v = option_map_or (λ w. w == v) (view_of store d) false

-- a good certificate that names a stored block, with that block's view
abbrev pub cert_on : Check → Stored → Cert → Bool
cert_on fits s c = has_view s.blocks c.block c.view && is_good fits s.setting c

-- a vote for a stored block in its view, whose seal fits
abbrev pub ballot_on : Check → Stored → Voted → Bool
ballot_on fits s v = has_view s.blocks v.vote.block v.vote.view && fits v.vote.replica (vote_spelling v.vote.replica v.vote.view v.vote.block) v.vote.seal

-- an order of a replica below n, for the block's view and parent
abbrev pub is_placed_on : Stored → Block → LocalOrder → Bool
is_placed_on s b order = (order.view == b.view) && (digest_eq order.parent b.cert.block && nat_lt order.replica s.setting.n)

abbrev pub order_on : Check → Stored → Block → SealedOrder → Bool
order_on fits s b sealed = is_placed_on s b sealed.order && is_sealed fits sealed

-- A block's view is above its certificate's, which is good and names a stored block. It has n-f orders, each for the
-- block's view and parent and sealed.
abbrev pub shaped_on : Check → Stored → Block → Bool
shaped_on fits s b = nat_lt b.cert.view b.view && ((length b.orders == quorum_of s.setting) && (cert_on fits s b.cert && list_all (order_on fits s b) b.orders))

-- and its orders fit the chain of the parent
abbrev pub valid_on : Check → Stored → Block → Bool
valid_on fits s b = shaped_on fits s b && list_all (λ sealed. fits_chain (chain_state_of s b.cert.block) sealed.order) b.orders
