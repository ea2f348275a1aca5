-- An order is delivered to the leader that asked for it: it is stored, or the block is proposed, or it is late.
use Rattle.std.proofs.Common.{◌≡◌, ℕ, ◌+◌, ◌<◌, ◌≤◌, List, [], ◌∷◌, ◌++◌, length, true, ap, ◌∙◌, arith, length-append}
use Rattle.std.proofs.lemmas.Bool.{and_from, not_from_true, or_from}
use Rattle.std.specs.List.{range_with_len}
use Rattle.seq_base.specs.declared.tx.Tx.{Tx}
use Rattle.seq_base.specs.declared.digest.Digest.{Digest}
use Rattle.seq_base.specs.declared.block.Block.{Block}
use Rattle.seq_base.specs.declared.order.SealedOrder.{SealedOrder}
use Rattle.seq_base.specs.declared.message.Message.TheVariants as messages
use Rattle.seq_base.specs.Setting.{Parameters, leader_of, quorum_of}
use Rattle.seq_base.specs.Spelling.{order_spelling, propose_spelling, message_spelling}
use Rattle.chain_state.specs.Standings.{fits as fits_chain}
use Rattle.node_core.specs.declared.event.Reason.TheVariants.{Done, OldView}
use Rattle.chain_store.specs.Chains.{chain_state_of}
use Rattle.node_core.specs.State.{Known}
use Rattle.node_core.specs.Reported.{Gives, quiet, reported, to_each}
use Rattle.node_core.specs.Rows.{Check}
use Rattle.node_core.specs.Order.{order_rows, order_reason, kept_order_rows, kept_order_reason, with_order, order_done, proposal, on_order}
use Rattle.progress_laws.proofs.StateSummary.{eq_yes, eq_no, lt_yes, lt_no, le_yes, passes_all, Rest, standing, state_at}
use Rattle.progress_laws.proofs.ReplicaLists.{RunFrom, goes_to_end, none_yet}
use Rattle.progress_laws.proofs.VoteSteps.{orderer}
use Rattle.agreement_laws.proofs.Digests.{true_same}

module _ (fits : Check) (gives : Gives) (s : Parameters) (views me : ℕ) (list : List Tx) (bs : List Block) (v : ℕ) (some : 1 ≤ v)
    (inside : v ≤ views) (leads : leader_of s v ≡ me) where
  abbrev before : Rest → Known
  before rest = standing s views me list bs v rest

  -- an order for the view over a block
  pub record IsOrder (replica : ℕ) (parent : Digest) (sealed : SealedOrder) : Type 0 where
    pub own : sealed.order.replica ≡ replica
    pub view : sealed.order.view ≡ v
    pub over : sealed.order.parent ≡ parent
    pub lists_fit : fits_chain (chain_state_of (record { setting = s; blocks = bs }) parent) sealed.order ≡ true
    pub seal_fits : fits replica (order_spelling sealed.order) sealed.seal ≡ true

  module _ (replica : ℕ) (rest : Rest) (sealed : SealedOrder) (is : IsOrder replica rest.ask_cert.block sealed) (asked : rest.asked ≡ v) where
    -- An order after the proposal has no effect.
    pub order_late : (made capacity : ℕ) → rest.proposed ≡ v
        → on_order fits gives (state_at (before rest) made capacity) replica sealed ≡ quiet (state_at (before rest) made capacity) OldView
    order_late made capacity proposed = rw (
      eq_yes sealed.order.replica replica is.own,
      lt_yes 0 sealed.order.view (omega (arith, is.view, some)),
      le_yes sealed.order.view views (omega (arith, is.view, inside)),
      eq_yes (leader_of s sealed.order.view) me (ap (leader_of s) is.view ∙ leads),
      eq_yes sealed.order.view rest.asked (omega (arith, is.view, asked)),
      lt_no sealed.order.view v (omega (arith, is.view)),
      eq_yes sealed.order.view rest.proposed (omega (arith, is.view, proposed)),
    )

    in_time : (rest.proposed ≡ v → ⊥) → order_reason fits (before rest) replica sealed ≡ Done
    in_time fresh = passes_all (order_rows fits (before rest) replica sealed) (
      not_from_true _ (eq_yes sealed.order.replica replica is.own),
      (
        not_from_true _ (and_from _ _ (lt_yes 0 sealed.order.view (omega (arith, is.view, some)))
            (le_yes sealed.order.view views (omega (arith, is.view, inside)))),
        (
          not_from_true _ (eq_yes _ me (ap (leader_of s) is.view ∙ leads)),
          (
            or_from _ _ (not_from_true _ (eq_yes sealed.order.view rest.asked (omega (arith, is.view, asked))))
                (or_from _ _ (lt_no sealed.order.view v (omega (arith, is.view)))
                (eq_no sealed.order.view rest.proposed (λ same. fresh (omega (arith, same, is.view))))),
            (
              not_from_true _ is.seal_fits,
              (
                not_from_true _ (true_same sealed.order.parent rest.ask_cert.block is.over),
                tt,
              ),
            ),
          ),
        ),
      ),
    )

    not_yet : RunFrom orderer 0 rest.orders → length rest.orders ≤ replica → kept_order_reason (before rest) replica sealed.order ≡ Done
    not_yet run few = passes_all (kept_order_rows (before rest) replica sealed.order) (
      not_from_true _ is.lists_fit,
      (
        none_yet orderer 0 replica rest.orders run (omega (arith, few)),
        tt,
      ),
    )

    at_end : RunFrom orderer 0 rest.orders → length rest.orders ≡ replica → with_order sealed rest.orders ≡ rest.orders ++ sealed ∷ []
    at_end run turn = goes_to_end orderer 0 sealed.order.replica rest.orders sealed run (omega (arith, is.own, turn))

    more : length (rest.orders ++ sealed ∷ []) ≡ length rest.orders + 1
    more = length-append rest.orders (sealed ∷ [])

    -- An order that does not complete the quorum is stored.
    pub order_kept : (made capacity : ℕ) → (rest.proposed ≡ v → ⊥) → RunFrom orderer 0 rest.orders → length rest.orders ≡ replica
        → length rest.orders + 1 < quorum_of s
        → on_order fits gives (state_at (before rest) made capacity) replica sealed
        ≡ quiet (state_at (before (record rest { orders = rest.orders ++ sealed ∷ [] })) made capacity) Done
    unfolding order_done
    order_kept made capacity fresh run turn few =
        rw (
          in_time fresh,
          not_yet run (omega (arith, turn)),
          at_end run turn,
          eq_no (length (rest.orders ++ sealed ∷ [])) (quorum_of s) (λ same. omega (arith, same, more, few)),
        )

    abbrev pub block : Block
    block = record { view = v; cert = rest.ask_cert; orders = rest.orders ++ sealed ∷ [] }

    abbrev pub after_block : Rest
    after_block = record rest { proposed = v; orders = [] }

    -- With the order that completes the quorum the block is proposed.
    pub order_last : (made capacity : ℕ) → (rest.proposed ≡ v → ⊥) → RunFrom orderer 0 rest.orders → length rest.orders ≡ replica
        → length rest.orders + 1 ≡ quorum_of s → made < capacity
        → on_order fits gives (state_at (before rest) made capacity) replica sealed
        ≡ record {
          reported = reported (state_at (before after_block) made capacity) Done (propose_spelling me block ∷ [])
              (to_each (range_with_len 0 s.n) (message_spelling (messages.Propose me block (gives made (propose_spelling me block)))));
          state = state_at (before after_block) (made + 1) capacity;
        }
    unfolding order_done proposal
    order_last made capacity fresh run turn all room =
        rw (
          in_time fresh,
          not_yet run (omega (arith, turn)),
          at_end run turn,
          eq_yes (length (rest.orders ++ sealed ∷ [])) (quorum_of s) (omega (arith, more, all)),
          asked,
          eq_no made capacity (λ same. omega (arith, same, room)),
        )
