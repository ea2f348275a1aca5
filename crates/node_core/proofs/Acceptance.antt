-- An event for which no test of its kind holds is accepted.
use Rattle.std.proofs.Common.{◌≡◌, ◌≢◌, ℕ, ◌<◌, ◌≤◌, Option, false, true, refl, subst, sym}
use Rattle.seq_base.specs.declared.digest.Digest.{Digest}
use Rattle.seq_base.specs.declared.block.Block.{Block}
use Rattle.seq_base.specs.declared.order.SealedOrder.{SealedOrder}
use Rattle.seq_base.specs.Limits.{IsWithin}
use Rattle.block_store.specs.Store.{block_digest, is_stored, clashes}
use Rattle.wire_view.specs.Views.{Call, Voted}
use Rattle.node_core.specs.declared.event.Reason.{Reason}
use Rattle.node_core.specs.declared.event.Reason.TheVariants.{Done}
use Rattle.node_core.specs.declared.judged.Accepted.TheVariants as accepted
use Rattle.node_core.specs.State.{Known, State}
use Rattle.node_core.specs.Reported.{Gives}
use Rattle.node_core.specs.Rows.{Check}
use Rattle.node_core.specs.NewView.{new_view_reason, new_view_for, on_new_view}
use Rattle.node_core.specs.Ask.{ask_reason, ask_for, on_ask}
use Rattle.node_core.specs.Order.{kept_order_reason, kept_order_for}
use Rattle.node_core.specs.Propose.{proposed_reason, proposed_for}
use Rattle.node_core.specs.Vote.{has_voted, voted_for}
use Rattle.node_core.specs.Give.{given_reason, given_for}
use Rattle.node_core.specs.Judged.{IsInRun, IsStorable, IsAccepted}
use Rattle.node_core.proofs.Effects.{new_view_changes, ask_changes, order_changes, propose_changes, give_changes}
use Rattle.node_core.proofs.Ballots.{vote_changes}

-- An owned block can be stored, where the message that shows it and the tests say so.
pub can_be_stored : (s : Known) (own block : Block) (digest : Digest) → own ≡ block → block.view ≤ s.views → block.cert.view < block.view
    → is_stored s.store block.cert.block ≡ true → IsWithin own → digest ≡ block_digest block → clashes s.store digest own ≡ false → IsStorable s own digest
can_be_stored s own block digest same view earlier parent within named alone =
    subst (λ (b : Block). IsStorable s b digest) (sym same) (record {
      view = view;
      earlier = earlier;
      within = subst (λ (b : Block). IsWithin b) same within;
      own = named;
      parent = parent;
      alone = subst (λ (b : Block). clashes s.store digest b ≡ false) same alone;
    })

module _ (gives : Gives) (s : State) where
  pub new_view_accepted : (fits : Check) (from : ℕ) (call : Call) → new_view_reason fits s.known from call ≡ Done → IsInRun s.known call
      → IsAccepted gives s (on_new_view fits gives s from call) (accepted.NewView from call)
  new_view_accepted fits from call is run =
      subst (λ (r : Reason). IsAccepted gives s (new_view_for gives s from call r) (accepted.NewView from call)) (sym is)
      (record { applies = refl; passed = run; changes = new_view_changes s gives from call })

  pub ask_accepted : (fits : Check) (from : ℕ) (call : Call) → ask_reason fits s.known from call ≡ Done → IsInRun s.known call → s.known.ordered < call.view
      → IsAccepted gives s (on_ask fits gives s from call) (accepted.Ask from call)
  ask_accepted fits from call is run later =
      subst (λ (r : Reason). IsAccepted gives s (ask_for gives s from call r) (accepted.Ask from call)) (sym is)
      (record { applies = refl; passed = run; changes = ask_changes s gives from call later })

  -- The owned value is the one that the message shows.
  pub order_accepted : (from : ℕ) (own sealed : SealedOrder) → own ≡ sealed → kept_order_reason s.known from own.order ≡ Done → s.known.asked ≢ s.known.proposed
      → IsAccepted gives s (kept_order_for gives s sealed (kept_order_reason s.known from sealed.order)) (accepted.Order own)
  order_accepted from own sealed same is fresh =
      subst (λ (o : SealedOrder). IsAccepted gives s (kept_order_for gives s o (kept_order_reason s.known from o.order)) (accepted.Order own)) same
      (subst (λ (r : Reason). IsAccepted gives s (kept_order_for gives s own r) (accepted.Order own)) (sym is)
      (record { applies = refl; passed = tt; changes = order_changes s gives own fresh }))

  pub propose_accepted : (fits : Check) (own block : Block) (digest : Digest) → own ≡ block → proposed_reason fits s.known own ≡ Done
      → IsStorable s.known own digest
      → s.known.safety.voted < own.view → IsAccepted gives s (proposed_for gives s block (proposed_reason fits s.known block)) (accepted.Propose own digest)
  propose_accepted fits own block digest same is storable later =
      subst (λ (b : Block). IsAccepted gives s (proposed_for gives s b (proposed_reason fits s.known b)) (accepted.Propose own digest)) same
      (subst (λ (r : Reason). IsAccepted gives s (proposed_for gives s own r) (accepted.Propose own digest)) (sym is)
      (record { applies = refl; passed = (storable, later); changes = propose_changes s gives own later }))

  pub give_accepted : (fits : Check) (own block : Block) (digest : Digest) → own ≡ block → given_reason fits s.known own ≡ Done → IsStorable s.known own digest
      → is_stored s.known.store digest ≡ false → IsAccepted gives s (given_for s block (given_reason fits s.known block)) (accepted.Give own digest)
  give_accepted fits own block digest same is storable fresh =
      let absent : is_stored s.known.store (block_digest own) ≡ false = subst (λ (d : Digest). is_stored s.known.store d ≡ false) storable.own fresh in
      subst (λ (b : Block). IsAccepted gives s (given_for s b (given_reason fits s.known b)) (accepted.Give own digest)) same
      (subst (λ (r : Reason). IsAccepted gives s (given_for s own r) (accepted.Give own digest)) (sym is)
      (record { applies = refl; passed = storable; changes = give_changes s own absent }))

  pub vote_accepted : (vote : Voted) (order : Option SealedOrder) (reason : Reason) → order ≡ vote.order → reason ≡ Done → vote.vote.view ≤ s.known.views
      → s.known.high.view < vote.vote.view → has_voted s.known.boxes vote.vote.view vote.vote.block vote.vote.replica ≡ false
      → IsAccepted gives s (voted_for gives s vote reason) (accepted.Vote vote order)
  vote_accepted vote order reason same is within higher new =
      subst (λ (o : Option SealedOrder). IsAccepted gives s (voted_for gives s vote reason) (accepted.Vote vote o)) (sym same)
      (subst (λ (r : Reason). IsAccepted gives s (voted_for gives s vote r) (accepted.Vote vote vote.order)) (sym is)
      (record { applies = refl; passed = within; changes = vote_changes s gives vote.vote vote.order higher new }))
