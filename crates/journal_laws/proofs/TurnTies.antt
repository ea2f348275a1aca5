-- What holds of a turn and its entry.
use Rattle.std.proofs.Common.{◌≡◌, ℕ, ◌^◌, ◌<◌, ◌≤◌, List, [], ◌∷◌, ◌++◌, drop, get_or, Bool, true, false, Option, Some, None, refl, sym, ap, ◌∙◌, arith}
use Rattle.std.specs.Prelude.{All, ◌↔◌, if◌then◌else◌}
use Rattle.std.specs.List.{filter_map}
use Rattle.std.specs.Int.{w8, w32, to_be_bytes}
use Rattle.std.proofs.lemmas.List.{drop_at}
use Rattle.std.proofs.Common.{append_assoc}
use Rattle.seq_base.specs.declared.kinds.TheConstants.{ORDER}
use Rattle.seq_base.specs.declared.tx.Tx.{Tx}
use Rattle.seq_base.specs.declared.digest.Digest.{Digest}
use Rattle.seq_base.specs.declared.block.Block.{Block}
use Rattle.seq_base.specs.declared.block.Cert.{Cert}
use Rattle.seq_base.specs.declared.order.LocalOrder.{LocalOrder}
use Rattle.seq_base.specs.Setting.{Parameters}
use Rattle.seq_base.specs.Spelling.{order_spelling, vote_spelling}
use Rattle.block_store.specs.Store.{block_digest, block_at, is_stored, clashes, with_block}
use Rattle.chain_state.specs.Standings.{order_drawn}
use Rattle.chain_store.specs.Chains.{chain_state_of}
use Rattle.quorum_cert.specs.Certificates.{is_good}
use Rattle.quorum_cert.specs.Quorums.{IsGood as IsGoodCert}
use Rattle.wire_view.specs.declared.messages.MessageView.{MessageView}
use Rattle.wire_view.specs.declared.messages.MessageView.TheVariants as messages
use Rattle.agreement_laws.specs.Journals.{ballot, Entry as Shown}
use Rattle.node_core.specs.declared.event.Event.{Event}
use Rattle.node_core.specs.declared.event.Event.TheVariants.{Arrived, Deliver, Tick}
use Rattle.node_core.specs.declared.event.Reason.{Reason}
use Rattle.node_core.specs.State.{Known, kept_of}
use Rattle.node_core.specs.Reported.{Outcome}
use Rattle.node_core.specs.Rows.{Check, is_fit}
use Rattle.journal_rules.specs.Rules.{replica_named}
use Rattle.journal_rules.specs.Shown.{is_done, shown_message, ballot_in}
use Rattle.journal_rules.proofs.Blocks.{block_of, with_stored}
use Rattle.journal_laws.proofs.Marks.{view_read}
use Rattle.journal_rules.proofs.NextPrefix.{AllMove}
use Rattle.journal_laws.proofs.StateInvariant.{TiedTo}

-- the laws of lower crates that this rests on
pub record Laws : Type 0 where
  pub moves : AllMove
  pub stay : (store : List Block) (next : Block) (d : Digest) (b : Block) → block_at store d ≡ Some b → block_at (with_block next store) d ≡ Some b
  pub found : (store : List Block) (b : Block) → clashes store (block_digest b) b ≡ false → block_at (with_block b store) (block_digest b) ≡ Some b
  pub good : (fits : Check) (s : Parameters) (c : Cert) → (is_good fits s c ≡ true) ↔ IsGoodCert fits s c

-- a statement that is a local order is drawn from what is known, over a stored block
pub record IsDrawnBy (known : Known) (statement : List ℕ) : Type 0 where
  pub order : LocalOrder
  pub spelled : statement ≡ order_spelling order
  pub own : order.replica ≡ known.me
  pub below : order.view ≤ known.views
  pub stored : is_stored known.store order.parent ≡ true
  pub drawn : order ≡ order_drawn order.replica order.view order.parent known.prefix
      (chain_state_of (record { setting = known.setting; blocks = known.store }) order.parent)

abbrev pub DrawnIfOrder : Known → List ℕ → Type 0
DrawnIfOrder known statement = get_or statement 0 0 ≡ ORDER → IsDrawnBy known statement

-- the byte by which a statement names a replica
abbrev pub byte_of : ℕ → ℕ
byte_of replica = get_or (to_be_bytes w8 replica) 0 0

pub byte_is : (replica : ℕ) → replica < 256 → byte_of replica ≡ replica
byte_is replica small = omega (arith, small)

-- a statement that was sealed names its node, and if it is a local order, it is drawn
pub record IsOwn (known : Known) (statement : List ℕ) : Type 0 where
  pub named : replica_named statement ≡ byte_of known.me
  pub drawn : DrawnIfOrder known statement

-- a block that was accepted, over the state before it
pub record WasTaken (fits : Check) (known : Known) (b : Block) : Type 0 where
  pub good : is_good fits known.setting b.cert ≡ true
  pub parent : is_stored known.store b.cert.block ≡ true
  pub fit : is_fit fits known b ≡ true
  pub alone : clashes known.store (block_digest b) b ≡ false

-- the tests that a message with the reason Done passed, over the state before it
abbrev pub WasDone : Check → Known → Option MessageView → Type 0
WasDone fits known None = Unit {0}
WasDone fits known (Some (messages.NewView call)) = is_good fits known.setting call.cert ≡ true
WasDone fits known (Some (messages.Ask call)) = is_good fits known.setting call.cert ≡ true
WasDone fits known (Some (messages.Order sealed)) = Unit {0}
WasDone fits known (Some (messages.Propose proposed)) = WasTaken fits known proposed.block
WasDone fits known (Some (messages.Vote voted)) =
    fits voted.vote.replica (vote_spelling voted.vote.replica voted.vote.view voted.vote.block) voted.vote.seal ≡ true
WasDone fits known (Some (messages.Fetch block)) = Unit {0}
WasDone fits known (Some (messages.Give block)) = WasTaken fits known block

-- an entry as it is shown
abbrev pub entry_of : Option MessageView → Reason → List (List ℕ) → Shown
entry_of m reason sealed = record { message = shown_message m; is_done = is_done reason; sealed = filter_map ballot_in sealed }

abbrev pub stored_of : Reason → Option MessageView → Option Block
stored_of reason m = if is_done reason then block_of m else None

-- what holds after a turn
pub record TurnTies (fits : Check) (s : Parameters) (known : Known) (blocks : List Block) (arrived : List Tx) (prior : List Shown)
    (m : Option MessageView) (more : List Tx) (o : Outcome) : Type 0 where
  pub tied : TiedTo s o.state.known (with_stored blocks (stored_of o.reported.reason m)) (arrived ++ more)
      (prior ++ entry_of m o.reported.reason o.reported.sealed ∷ [])
  pub kept : o.reported.kept ≡ kept_of o.state.known
  pub me : o.state.known.me ≡ known.me
  pub idle : is_done o.reported.reason ≡ false → (more ≡ []) × (o.reported.sealed ≡ [])
  pub done : is_done o.reported.reason ≡ true → WasDone fits known m
  pub own : All (IsOwn o.state.known) o.reported.sealed

pub if_so : (P : Outcome → Type 0) (b : Bool) (x y : Outcome) → P x → P y → P (if b then x else y)
if_so P true x y p q = p
if_so P false x y p q = q

-- the sender is a replica
abbrev pub ComesFrom : Parameters → Event → Type 0
ComesFrom s (Arrived list) = Unit {0}
ComesFrom s (Deliver from bytes) = from < s.n
ComesFrom s (Tick floor) = Unit {0}

-- a vote's statement shows the vote
pub vote_shown : (me view : ℕ) (d : Digest) → view < 2 ^ 32 → ballot_in (vote_spelling me view d) ≡ Some (ballot view d)
vote_shown me view d small = rw (view_read me view d.0 small, digest_is) refl
  where
    digest_is : drop 5 (to_be_bytes w8 me ++ to_be_bytes w32 view ++ d.0) ≡ d.0
    digest_is = ap (drop 5) (sym (append_assoc (to_be_bytes w8 me) (to_be_bytes w32 view) d.0)) ∙ drop_at (to_be_bytes w8 me ++ to_be_bytes w32 view) d.0 5 refl
