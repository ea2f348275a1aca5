-- The tests that several kinds of messages share. Each kind has a list of tests, each with its reason. The first test
-- that holds gives the reason of the turn.
use Rattle.std.specs.Prelude.{ℕ, List, [], ◌∷◌, length, Bool, false, ◌||◌, ◌&&◌, not, nat_lt, nat_le, nat_eq, if◌then◌else◌}
use Rattle.std.specs.List.{list_all}
use Rattle.std.specs.Option.{option_map_or}
use Rattle.seq_base.specs.declared.digest.Digest.{Digest}
use Rattle.seq_base.specs.declared.block.Cert.{Cert}
use Rattle.seq_base.specs.declared.block.Block.{Block}
use Rattle.seq_base.specs.declared.order.LocalOrder.{LocalOrder}
use Rattle.seq_base.specs.declared.order.SealedOrder.{SealedOrder}
use Rattle.seq_base.specs.Setting.{quorum_of}
use Rattle.seq_base.specs.Blocks.{digest_eq}
use Rattle.seq_base.specs.Spelling.{order_spelling}
use Rattle.block_store.specs.Store.{view_of}
use Rattle.quorum_cert.specs.Certificates.{is_good}
use Rattle.chain_state.specs.Standings.{Standings, fits}
use Rattle.node_core.specs.declared.event.Reason.{Reason}
use Rattle.node_core.specs.declared.event.Reason.TheVariants.{Done}
use Rattle.node_core.specs.State.{Known}
use Rattle.chain_store.specs.Chains.{chain_state_of}

-- whether a seal of a replica fits bytes
abbrev pub Check : Type 0
Check = ℕ → List ℕ → List ℕ → Bool

-- a test, and its reason
abbrev pub Row : Type 0
Row = Bool × Reason

-- the reason of the first test that holds, or Done if none does
abbrev pub first_reason : List Row → Reason
first_reason [] = Done
first_reason (row ∷ rows) = if row.0 then row.1 else first_reason rows

-- the block is stored with another view
abbrev pub is_stored_elsewhere : Known → Digest → ℕ → Bool
is_stored_elsewhere s block v = option_map_or (λ view. not (nat_eq view v)) (view_of s.store block) false

-- A certificate is bad for a view if it is not valid, or its view is not below that view, or its block is stored with
-- another view.
abbrev pub is_bad : Check → Known → Cert → ℕ → Bool
is_bad fits s cert v = nat_le v cert.view || (is_stored_elsewhere s cert.block cert.view || not (is_good fits s.setting cert))

-- the chain state of a stored block
abbrev pub chain_at : Known → Digest → Standings
chain_at s block = chain_state_of (record { setting = s.setting; blocks = s.store }) block

-- the order's lists fit the chain of its parent
abbrev pub lists_fit : Known → Digest → LocalOrder → Bool
lists_fit s parent order = fits (chain_at s parent) order

-- the order is for the block's view and parent, and of a replica
abbrev pub is_placed : Known → Block → LocalOrder → Bool
is_placed s block order = nat_eq order.view block.view && (digest_eq order.parent block.cert.block && nat_lt order.replica s.setting.n)

abbrev pub is_sealed : Check → SealedOrder → Bool
is_sealed check sealed = check sealed.order.replica (order_spelling sealed.order) sealed.seal

-- A block is fit if it has exactly n-f orders and all are fit: each has the block's view and parent and a replica below
-- n, each fits the chain state of the parent, and the seal of each fits.
abbrev pub is_fit : Check → Known → Block → Bool
is_fit check s block =
    nat_eq (length block.orders) (quorum_of s.setting)
    && (list_all (λ sealed. is_placed s block sealed.order) block.orders
    && (list_all (λ sealed. lists_fit s block.cert.block sealed.order) block.orders && list_all (is_sealed check) block.orders))
