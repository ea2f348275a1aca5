-- What a node knows, and what it is.
use Rattle.std.specs.Prelude.{◌≡◌, ℕ, min, List, [], length, Bool, false, ◌&&◌, nat_lt, nat_le, nat_eq, count_by}
use Rattle.std.specs.List.{list_any}
use Rattle.seq_base.specs.declared.tx.Tx.{Tx}
use Rattle.seq_base.specs.declared.digest.Digest.{Digest}
use Rattle.seq_base.specs.declared.order.SealedOrder.{SealedOrder}
use Rattle.seq_base.specs.declared.block.Cert.{Cert}
use Rattle.seq_base.specs.declared.block.Block.{Block}
use Rattle.seq_base.specs.Setting.{Parameters, leader_of}
use Rattle.seq_base.specs.Blocks.{first_cert}
use Rattle.seal_kit.specs.declared.traits.Sealer.{Ghosts}
use Rattle.quorum_cert.specs.Boxes.{Box}
use Rattle.hotstuff_core.specs.Rules.{State as Safe, opening}

-- a replica called for a view
pub record Called : Type 0 where
  pub view : ℕ
  pub replica : ℕ

-- the votes for one block in one view, and the local orders that they carried, with ascending replicas
pub record Ballot : Type 0 where
  pub view : ℕ
  pub block : Digest
  pub votes : Box
  pub orders : List SealedOrder

-- all that a node knows, without its sealer
pub record Known : Type 0 where
  pub setting : Parameters
  -- the node's own number, and the last view of the run
  pub me : ℕ
  pub views : ℕ
  -- the known arrivals
  pub prefix : List Tx
  pub view : ℕ
  -- the last view for which an order was drawn
  pub ordered : ℕ
  -- the last view for which orders were asked, the certificate asked with, and the orders kept for that view
  pub asked : ℕ
  pub ask_cert : Cert
  pub orders : List SealedOrder
  -- the last view in which a block was proposed
  pub proposed : ℕ
  pub high : Cert
  -- the view of the last vote, the lock and the committed block
  pub safety : Safe
  pub store : List Block
  -- who called for each view
  pub gathered : List Called
  -- votes by view and block
  pub boxes : List Ballot

-- with the number of seals that the sealer has made, and the number that it can make
pub record State : Type 0 where
  pub known : Known
  pub made : ℕ
  pub capacity : ℕ

-- a node, with its sealer
pub record NodeValue (S : Type 0) : Type 0 where
  pub state : State
  pub halted : Bool
  pub sealer : S

-- what no turn changes: the seals that the sealer gives, whose they are, and, except for a fault, whether the node is
-- halted
pub record SeatParts : Type 0 where
  pub gives : ℕ → List ℕ → List ℕ
  pub replica : ℕ
  pub halted : Bool

abbrev pub seat_of : {S : Type 0} → Ghosts S → NodeValue S → SeatParts
seat_of s node = record { gives = s.gives node.sealer; replica = s.replica node.sealer; halted = node.halted }

abbrev pub KeepsSeat : {S : Type 0} → Ghosts S → NodeValue S → NodeValue S → Type 0
KeepsSeat s old new = seat_of s new ≡ seat_of s old

-- a node that knows only the first block
abbrev pub fresh_known : Parameters → ℕ → ℕ → Known
fresh_known s views me = record {
  setting = s;
  me = me;
  views = views;
  prefix = [];
  view = 0;
  ordered = 0;
  asked = 0;
  ask_cert = first_cert;
  orders = [];
  proposed = 0;
  high = first_cert;
  safety = opening;
  store = [];
  gathered = [];
  boxes = [];
}

-- a node that is new, with the sealer's counts
abbrev pub fresh_seat : {S : Type 0} → (S → ℕ) → (S → ℕ) → (S → ℕ) → Parameters → ℕ → S → NodeValue S
fresh_seat made capacity replica s views sealer = record {
  state = record { known = fresh_known s views (replica sealer); made = made sealer; capacity = capacity sealer };
  halted = false;
  sealer = sealer;
}

-- the node with another sealer
abbrev pub with_sealer : {S : Type 0} → (S → ℕ) → (S → ℕ) → NodeValue S → S → NodeValue S
with_sealer made capacity node sealer = record {
  state = record { known = node.state.known; made = made sealer; capacity = capacity sealer };
  halted = node.halted;
  sealer = sealer;
}

-- the state with other knowledge
abbrev pub knowing : State → Known → State
knowing s known = record { known = known; made = s.made; capacity = s.capacity }

-- the run has the view
abbrev pub has_view : Known → ℕ → Bool
has_view s v = nat_lt 0 v && nat_le v s.views

-- the node leads the view
abbrev pub leads : Known → ℕ → Bool
leads s v = nat_eq (leader_of s.setting v) s.me

-- whether a replica called for a view, and how many did
abbrev pub has_called : List Called → ℕ → ℕ → Bool
has_called calls v replica = list_any (λ c. nat_eq c.view v && nat_eq c.replica replica) calls

abbrev pub callers_of : List Called → ℕ → ℕ
callers_of calls v = count_by (λ c. nat_eq c.view v) calls

-- the number of known transactions, at most the greatest number of 32 bits
abbrev pub kept_of : Known → ℕ
kept_of s = min (length s.prefix) 4294967295
