-- An event that takes effect changes something, kind by kind.
use Rattle.std.proofs.Common.{◌≡◌, ◌≢◌, ℕ, ◌+◌, ◌<◌, ◌≤◌, List, [], ◌∷◌, ◌++◌, length, Bool, true, false, nat_eq, nat_lt, is_some, if◌then◌else◌, refl, sym, ap, ◌∙◌, arith, inl, inr}
use Rattle.std.specs.Prelude.{count_by}
use Rattle.std.proofs.lemmas.Bool.{cases_Bool, or_parts}
use Rattle.std.proofs.lemmas.List.{length_push, length-append}
use Rattle.std.proofs.lemmas.List.Edits.{length-insert}
use Rattle.std.proofs.lemmas.List.Sums.{count_by-le-length}
use Rattle.seq_base.specs.declared.kinds.TheConstants.{ASK}
use Rattle.seq_base.specs.declared.tx.Tx.{Tx}
use Rattle.seq_base.specs.declared.digest.Digest.{Digest}
use Rattle.seq_base.specs.declared.block.Block.{Block}
use Rattle.seq_base.specs.declared.order.LocalOrder.{LocalOrder}
use Rattle.seq_base.specs.declared.order.SealedOrder.{SealedOrder}
use Rattle.seq_base.specs.Setting.{quorum_of}
use Rattle.seq_base.specs.Blocks.{digest_eq, first_digest}
use Rattle.seq_base.specs.Spelling.{call_spelling, order_spelling}
use Rattle.block_store.specs.Store.{block_digest, block_at, is_stored}
use Rattle.hotstuff_core.specs.Rules.{voted_in}
use Rattle.wire_view.specs.Views.{Call}
use Rattle.node_core.specs.declared.event.Reason.TheVariants.{Done}
use Rattle.node_core.specs.State.{Known, State, Called, knowing, callers_of}
use Rattle.node_core.specs.See.{seen, asked_for, taken, ordering}
use Rattle.node_core.specs.Reported.{Gives, Outcome, quiet, sealed_to, is_spent, one_more_made, everyone}
use Rattle.node_core.specs.NewView.{joined, new_view_done}
use Rattle.node_core.specs.Ask.{ask_done, order_of_view}
use Rattle.node_core.specs.Order.{order_done, are_enough, with_order, proposal}
use Rattle.node_core.specs.Propose.{propose_done, voted, vote_for, lone_vote}
use Rattle.node_core.specs.Give.{give_done}
use Rattle.node_core.specs.Turn.{on_arrived}
use Rattle.node_core.specs.Idle.{NoneFormed, Changes}

-- what is known differs
abbrev pub Differ : State → State → Type 0
Differ s t = NoneFormed s.known → ¬ (t.known ≡ s.known)

pub changed : (s t : State) (o : Outcome) → o.reported.reason ≡ Done → o.state.known ≡ t.known → Differ s t → Changes s o
changed s t o taken is differ = record { taken = taken; other = λ none same. differ none (sym is ∙ ap (λ (x : State). x.known) same) }

pub if_changed : (s : State) (b : Bool) (x y : Outcome) → Changes s x → Changes s y → Changes s (if b then x else y)
if_changed s true x y p q = p
if_changed s false x y p q = q

-- whether or not the seal is made
pub sealed_changed : (s t : State) (gives : Gives) (statement receivers : List ℕ) → Differ s t → Changes s (sealed_to gives t statement receivers)
sealed_changed s t gives statement receivers differ = if_changed s (is_spent t) _ _ (changed s t _ refl refl differ) (changed s t _ refl refl differ)

pub arrival_changes : (s : State) (list : List Tx) → 0 < length list → Changes s (on_arrived s list)
arrival_changes s list some = changed s (knowing s (record s.known { prefix = s.known.prefix ++ list })) _ refl refl (λ none same. (
    let longer : length (s.known.prefix ++ list) ≡ length s.known.prefix = ap (λ (k : Known). length k.prefix) same in
    omega (arith, longer, length-append s.known.prefix list)))

called : (s t : State) (c : Called) → t.known.gathered ≡ s.known.gathered ++ c ∷ [] → Differ s t
called s t c is none same =
    let longer : length (s.known.gathered ++ c ∷ []) ≡ length s.known.gathered = ap length (sym is ∙ ap (λ (k : Known). k.gathered) same) in
    omega (arith, longer, length_push s.known.gathered c)

pub new_view_changes : (s : State) (gives : Gives) (from : ℕ) (call : Call) → Changes s (new_view_done gives s from call)
unfolding new_view_done
new_view_changes s gives from call =
    let caller : Called = record { view = call.view; replica = from } in
    let after : State = knowing s (joined from call s.known) in
    let next : State = knowing after (asked_for call.view after.known) in
    if_changed s (nat_eq (callers_of after.known.gathered call.view) (quorum_of after.known.setting)) _ _
    (sealed_changed s next gives (call_spelling ASK next.known.me next.known.asked next.known.high) (everyone next.known) (called s next caller refl))
    (changed s after _ refl refl (called s after caller refl))

pub ask_changes : (s : State) (gives : Gives) (from : ℕ) (call : Call) → s.known.ordered < call.view → Changes s (ask_done gives s from call)
unfolding ask_done
ask_changes s gives from call later =
    let after : State = knowing s (ordering call.view (seen call.cert s.known)) in
    sealed_changed s after gives (order_spelling (order_of_view after.known call.view call.cert.block)) (from ∷ []) (λ none same. (
    let view : call.view ≡ s.known.ordered = ap (λ (k : Known). k.ordered) same in
    omega (arith, view, later)))

pub order_changes : (s : State) (gives : Gives) (sealed : SealedOrder) → s.known.asked ≢ s.known.proposed → Changes s (order_done gives s sealed)
unfolding order_done
order_changes s gives sealed fresh =
    let orders : List SealedOrder = with_order sealed s.known.orders in
    let place : ℕ = count_by (λ (o : SealedOrder). nat_lt o.order.replica sealed.order.replica) s.known.orders in
    elim (cases_Bool (are_enough s.known orders)) [
      | inl full ↦ rw full (
          let after : State = knowing s (record s.known { proposed = s.known.asked; orders = [] }) in
          let block : Block = record { view = s.known.asked; cert = s.known.ask_cert; orders = orders } in
          sealed_changed s after gives (proposal after.known.me block) (everyone after.known) (λ none same. fresh (ap (λ (k : Known). k.proposed) same)))
      | inr few ↦ rw few (
          let after : State = knowing s (record s.known { orders = orders }) in
          changed s after (quiet after Done) refl refl (λ none same. (
          let longer : length orders ≡ length s.known.orders = ap (λ (k : Known). length k.orders) same in
          let within : place ≤ length s.known.orders = count_by-le-length _ s.known.orders in
          omega (arith, longer, length-insert s.known.orders place sealed within))))
    ]

-- a vote, and the order that it carries
vote_changed : (s t : State) (gives : Gives) (v : ℕ) (d : Digest) (order : LocalOrder) → Differ s t → Changes s (vote_for gives t v d order)
vote_changed s t gives v d order differ =
    if_changed s (is_spent t) _ _ (changed s t _ refl refl differ)
    (if_changed s (is_spent (one_more_made t)) _ _ (changed s t _ refl refl differ) (changed s t _ refl refl differ))

lone_vote_changed : (s t : State) (gives : Gives) (v : ℕ) (d : Digest) → Differ s t → Changes s (lone_vote gives t v d)
lone_vote_changed s t gives v d differ = if_changed s (is_spent t) _ _ (changed s t _ refl refl differ) (changed s t _ refl refl differ)

voted_in_view : (s t : State) (v : ℕ) → s.known.safety.voted < v → t.known.safety.voted ≡ v → Differ s t
voted_in_view s t v later is none same =
    let view : t.known.safety.voted ≡ s.known.safety.voted = ap (λ (k : Known). k.safety.voted) same in
    omega (arith, view, is, later)

pub propose_changes : (s : State) (gives : Gives) (block : Block) → s.known.safety.voted < block.view → Changes s (propose_done gives s block)
unfolding propose_done voted
propose_changes s gives block later =
    let v : ℕ = block.view in
    let d : Digest = block_digest block in
    let known : Known = taken block s.known in
    let after : Known = record known { safety = voted_in v known.safety } in
    let next : State = knowing s (ordering (v + 1) after) in
    let last : State = knowing s (record after { view = v }) in
    if_changed s (nat_lt v after.views) _ _ (vote_changed s next gives v d (order_of_view next.known (v + 1) d) (voted_in_view s next v later refl))
    (lone_vote_changed s last gives v d (voted_in_view s last v later refl))

pub give_changes : (s : State) (block : Block) → is_stored s.known.store (block_digest block) ≡ false → Changes s (give_done s block)
unfolding give_done
give_changes s block fresh =
    changed s (knowing s (taken block s.known)) _ refl refl (λ none same. (
    let absent : is_some (block_at s.known.store (block_digest block)) ≡ false =
    (or_parts (digest_eq (block_digest block) first_digest) (is_some (block_at s.known.store (block_digest block))) fresh).1 in
    let longer : length (taken block s.known).store ≡ length s.known.store = ap (λ (k : Known). length k.store) same in
    let is : length (s.known.store ++ block ∷ []) ≡ length s.known.store = rw absent at longer in
    omega (arith, is, length_push s.known.store block)))
