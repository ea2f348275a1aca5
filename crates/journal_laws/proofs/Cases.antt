-- The cases of a turn: nothing, or what follows if no test of the kind's table holds.
use Rattle.std.proofs.Common.{◌≡◌, ℕ, subst, List, [], ◌∷◌, Bool, true, false, refl, cond}
use Rattle.seq_base.specs.declared.block.Block.{Block}
use Rattle.seq_base.specs.declared.message.Outgoing.{Outgoing}
use Rattle.seq_base.specs.declared.order.SealedOrder.{SealedOrder}
use Rattle.wire_view.specs.Views.{Call, Proposed, Voted}
use Rattle.node_core.specs.declared.event.Reason.{Reason}
use Rattle.node_core.specs.declared.event.Reason.TheVariants.{Done, Orphan}
use Rattle.node_core.specs.State.{State}
use Rattle.journal_rules.specs.Shown.{is_done}
use Rattle.node_core.specs.Reported.{Gives, Outcome, reported}
use Rattle.node_core.specs.Rows.{Check, Row, first_reason}
use Rattle.node_core.specs.NewView.{new_view_rows, new_view_reason, new_view_done, new_view_for, on_new_view}
use Rattle.node_core.specs.Ask.{ask_rows, ask_reason, ask_done, ask_for, on_ask}
use Rattle.node_core.specs.Order.{order_rows, order_reason, kept_order_rows, kept_order_reason, order_done, kept_order_for, order_for, on_order}
use Rattle.node_core.specs.Propose.{propose_rows, propose_reason, proposed_rows, proposed_reason, propose_done, proposed_for, propose_for, on_propose}
use Rattle.node_core.specs.Vote.{vote_rows, vote_reason, voted_rows, voted_reason, vote_done, voted_for, vote_for, on_vote}
use Rattle.node_core.specs.Give.{give_rows, give_reason, given_rows, given_reason, give_done, given_for, give_for, on_give}

-- no test holds
abbrev pub Passes : List Row → Type 0
Passes [] = Unit {0}
Passes (row ∷ rows) = (row.0 ≡ false) × Passes rows

abbrev refuses : List Row → Bool
refuses [] = true
refuses (row ∷ rows) = cond (is_done row.1) false (refuses rows)

passes : (rows : List Row) → refuses rows ≡ true → first_reason rows ≡ Done → Passes rows
passes [] others is = tt
passes ((true, reason) ∷ rows) others is =
    let none : false ≡ true = subst (λ (r : Reason). cond (is_done r) false (refuses rows) ≡ true) is others in
    absurd (cc)
passes ((false, reason) ∷ rows) others is = (refl, passes rows (rest (is_done reason) others) is)
  where
    rest : (t : Bool) → cond t false (refuses rows) ≡ true → refuses rows ≡ true
    rest true never = absurd (cc)
    rest false is = is

module _ (fits : Check) (gives : Gives) (s : State) (from : ℕ) (P : Outcome → Type 0) where
  -- nothing is done
  abbrev pub Still : Type 0
  Still = (reason : Reason) → is_done reason ≡ false → (sends : List Outgoing) → P (record { reported = reported s reason [] sends; state = s })

  pub new_view_cases : (call : Call) → Still → (Passes (new_view_rows fits s.known from call) → P (new_view_done gives s from call))
      → P (on_new_view fits gives s from call)
  new_view_cases call still done = by (new_view_reason fits s.known from call) refl
    where
      by : (r : Reason) → new_view_reason fits s.known from call ≡ r → P (new_view_for gives s from call r)
      by Done is = done (passes (new_view_rows fits s.known from call) refl is)
      by Orphan is = still Orphan refl _
      by reason is = still reason refl []

  pub ask_cases : (call : Call) → Still → (Passes (ask_rows fits s.known from call) → P (ask_done gives s from call)) → P (on_ask fits gives s from call)
  ask_cases call still done = by (ask_reason fits s.known from call) refl
    where
      by : (r : Reason) → ask_reason fits s.known from call ≡ r → P (ask_for gives s from call r)
      by Done is = done (passes (ask_rows fits s.known from call) refl is)
      by Orphan is = still Orphan refl _
      by reason is = still reason refl []

  pub order_cases : (sealed : SealedOrder) → Still
      → (Passes (order_rows fits s.known from sealed) → Passes (kept_order_rows s.known from sealed.order) → P (order_done gives s sealed))
      → P (on_order fits gives s from sealed)
  order_cases sealed still done = by (order_reason fits s.known from sealed) refl
    where
      following : Passes (order_rows fits s.known from sealed) → (r : Reason) → kept_order_reason s.known from sealed.order ≡ r
          → P (kept_order_for gives s sealed r)
      following first Done is = done first (passes (kept_order_rows s.known from sealed.order) refl is)
      following first reason is = still reason refl []

      by : (r : Reason) → order_reason fits s.known from sealed ≡ r → P (order_for gives s from sealed r)
      by Done is = following (passes (order_rows fits s.known from sealed) refl is) (kept_order_reason s.known from sealed.order) refl
      by reason is = still reason refl []

  pub propose_cases : (proposed : Proposed) → Still
      → (Passes (propose_rows fits s.known from proposed) → Passes (proposed_rows fits s.known proposed.block) → P (propose_done gives s proposed.block))
      → P (on_propose fits gives s from proposed)
  propose_cases proposed still done = by (propose_reason fits s.known from proposed) refl
    where
      following : Passes (propose_rows fits s.known from proposed) → (r : Reason) → proposed_reason fits s.known proposed.block ≡ r
          → P (proposed_for gives s proposed.block r)
      following first Done is = done first (passes (proposed_rows fits s.known proposed.block) refl is)
      following first reason is = still reason refl []

      by : (r : Reason) → propose_reason fits s.known from proposed ≡ r → P (propose_for fits gives s from proposed.block r)
      by Done is = following (passes (propose_rows fits s.known from proposed) refl is) (proposed_reason fits s.known proposed.block) refl
      by Orphan is = still Orphan refl _
      by reason is = still reason refl []

  pub vote_cases : (voted : Voted) → Still
      → (Passes (vote_rows fits s.known from voted) → Passes (voted_rows s.known from voted.vote voted.order) → P (vote_done gives s voted.vote voted.order))
      → P (on_vote fits gives s from voted)
  vote_cases voted still done = by (vote_reason fits s.known from voted) refl
    where
      following : Passes (vote_rows fits s.known from voted) → (r : Reason) → voted_reason s.known from voted.vote voted.order ≡ r
          → P (voted_for gives s voted r)
      following first Done is = done first (passes (voted_rows s.known from voted.vote voted.order) refl is)
      following first reason is = still reason refl []

      by : (r : Reason) → vote_reason fits s.known from voted ≡ r → P (vote_for gives s from voted r)
      by Done is = following (passes (vote_rows fits s.known from voted) refl is) (voted_reason s.known from voted.vote voted.order) refl
      by Orphan is = still Orphan refl _
      by reason is = still reason refl []

  pub give_cases : (block : Block) → Still
      → (Passes (give_rows fits s.known block) → Passes (given_rows fits s.known block) → P (give_done s block)) → P (on_give fits s from block)
  give_cases block still done = by (give_reason fits s.known block) refl
    where
      following : Passes (give_rows fits s.known block) → (r : Reason) → given_reason fits s.known block ≡ r → P (given_for s block r)
      following first Done is = done first (passes (given_rows fits s.known block) refl is)
      following first reason is = still reason refl []

      by : (r : Reason) → give_reason fits s.known block ≡ r → P (give_for fits s from block r)
      by Done is = following (passes (give_rows fits s.known block) refl is) (given_reason fits s.known block) refl
      by Orphan is = still Orphan refl _
      by reason is = still reason refl []
