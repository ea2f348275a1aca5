-- A vote is delivered to the leader of the next view: it is stored, or it completes the certificate, or it is late.
use Rattle.std.proofs.Common.{◌≡◌, ℕ, ◌+◌, ◌<◌, ◌≤◌, List, [], ◌∷◌, ◌++◌, length, true, false, Some, None, refl, sym, ap, ◌∙◌, inl, inr, ◌⊎◌, arith, length-append}
use Rattle.std.proofs.lemmas.Bool.{and_from, not_from_true, or_from}
use Rattle.std.specs.Prelude.{nat_eq, if◌then◌else◌}
use Rattle.std.specs.List.{range_with_len}
use Rattle.seq_base.specs.declared.tx.Tx.{Tx}
use Rattle.seq_base.specs.declared.digest.Digest.{Digest}
use Rattle.seq_base.specs.declared.block.Block.{Block}
use Rattle.seq_base.specs.declared.block.CertVote.{CertVote}
use Rattle.seq_base.specs.declared.order.SealedOrder.{SealedOrder}
use Rattle.seq_base.specs.declared.message.Message.TheVariants as messages
use Rattle.seq_base.specs.Setting.{Parameters, leader_of, quorum_of}
use Rattle.seq_base.specs.Spelling.{propose_spelling, message_spelling}
use Rattle.chain_state.specs.Standings.{fits as fits_chain}
use Rattle.quorum_cert.specs.Boxes.{bare, has_vote}
use Rattle.wire_view.specs.Views.{Voted}
use Rattle.node_core.specs.declared.state.votes.Formed.{Formed}
use Rattle.node_core.specs.declared.event.Reason.TheVariants.{Done, OldView}
use Rattle.chain_store.specs.Chains.{chain_state_of}
use Rattle.node_core.specs.State.{Known, Ballot}
use Rattle.node_core.specs.Reported.{Gives, quiet, reported, to_each}
use Rattle.node_core.specs.Rows.{Check}
use Rattle.node_core.specs.Order.{proposal, proposes}
use Rattle.node_core.specs.Vote.{vote_is_sealed, vote_rows, vote_reason, voted_rows, voted_reason, has_voted, ballot_of, others, formed, keeping, certified, vote_done, on_vote, next_block, proposing_next}
use Rattle.progress_laws.proofs.Chains.{IsChain, digest_at, view_is, is_stored_at}
use Rattle.progress_laws.proofs.StateSummary.{eq_yes, eq_no, lt_yes, lt_no, le_yes, le_no, passes_all, Rest, standing, state_at, saw, sees}
use Rattle.progress_laws.proofs.ReplicaLists.{RunFrom, goes_to_end, none_yet}
use Rattle.agreement_laws.proofs.Digests.{true_same}

-- the replicas of votes and of orders
abbrev pub voter : CertVote → ℕ
voter v = v.replica

abbrev pub orderer : SealedOrder → ℕ
orderer o = o.order.replica

module _ (fits : Check) (gives : Gives) (s : Parameters) (views me : ℕ) (list : List Tx) (bs : List Block) (chain : IsChain bs) where
  abbrev pub last : Digest
  last = digest_at bs (length bs)

  -- the ballot of the last block
  abbrev pub ballot : List CertVote → List SealedOrder → Ballot
  ballot votes orders =
      record { view = length bs; block = last; votes = record { setting = s; view = length bs; block = last; votes = votes; formed = false }; orders = orders }

  -- these votes and orders are stored
  abbrev pub AreKept : List Ballot → List CertVote → List SealedOrder → Type 0
  AreKept boxes votes orders = ((boxes ≡ []) × (votes ≡ []) × (orders ≡ [])) ⊎ (boxes ≡ ballot votes orders ∷ [])

  -- a vote for the last block, with its order for the next view
  pub record IsVote (replica : ℕ) (v : Voted) (sealed : SealedOrder) : Type 0 where
    pub own : v.vote.replica ≡ replica
    pub view : v.vote.view ≡ length bs
    pub block : v.vote.block ≡ last
    pub order : v.order ≡ Some sealed
    pub order_own : sealed.order.replica ≡ replica
    pub order_view : sealed.order.view ≡ length bs + 1
    pub order_parent : sealed.order.parent ≡ last
    pub order_fits : fits_chain (chain_state_of (record { setting = s; blocks = bs }) last) sealed.order ≡ true
    pub seal_fits : vote_is_sealed fits replica v ≡ true

  abbrev before : Rest → Known
  before rest = standing s views me list bs (length bs + 1) rest

  ballot_is : (rest : Rest) (votes : List CertVote) (orders : List SealedOrder) → AreKept rest.boxes votes orders
      → ballot_of (before rest) (length bs) last ≡ ballot votes orders
  ballot_is rest votes orders (inl k) = rw (k.0, k.1, k.2)
  ballot_is rest votes orders (inr k) = rw (k, eq_yes (length bs) (length bs) refl, true_same last last refl)

  others_are : (rest : Rest) (votes : List CertVote) (orders : List SealedOrder) → AreKept rest.boxes votes orders → others (length bs) last rest.boxes ≡ []
  others_are rest votes orders (inl k) = rw k.0
  others_are rest votes orders (inr k) = rw (k, eq_yes (length bs) (length bs) refl, true_same last last refl)

  not_voted : (rest : Rest) (votes : List CertVote) (orders : List SealedOrder) (replica : ℕ) → AreKept rest.boxes votes orders
      → RunFrom voter 0 votes → length votes ≤ replica
      → has_voted rest.boxes (length bs) last replica ≡ false
  not_voted rest votes orders replica (inl k) run few = rw k.0
  not_voted rest votes orders replica (inr k) run few =
      rw (k, none_yet voter 0 replica votes run (omega (arith, few)), eq_yes (length bs) (length bs) refl, true_same last last refl)

  module _ (replica : ℕ) (v : Voted) (sealed : SealedOrder) (is : IsVote replica v sealed) (some : 1 ≤ length bs)
      (inside : length bs < views) (leads : leader_of s (length bs + 1) ≡ me) where
    -- ---- late
    pub comes_late : (rest : Rest) (made capacity : ℕ) → rest.high.view ≡ length bs
        → on_vote fits gives (state_at (before rest) made capacity) replica v ≡ quiet (state_at (before rest) made capacity) OldView
    comes_late rest made capacity high = rw (late) refl
      where
        late : vote_reason fits (before rest) replica v ≡ OldView
        late = rw (
          eq_yes v.vote.replica replica is.own,
          lt_yes 0 v.vote.view (omega (arith, is.view, some)),
          le_yes v.vote.view views (omega (arith, is.view, inside)),
          eq_yes (leader_of s (v.vote.view + 1)) me (ap (λ (x : ℕ). leader_of s (x + 1)) is.view ∙ leads),
          lt_no (v.vote.view + 1) (length bs + 1) (omega (arith, is.view)),
          le_yes v.vote.view rest.high.view (omega (arith, is.view, high)),
        )

    -- ---- in time
    in_time : (rest : Rest) → rest.high.view < length bs → rest.asked ≤ length bs → vote_reason fits (before rest) replica v ≡ Done
    in_time rest high asked = passes_all (vote_rows fits (before rest) replica v) (
      not_from_true _ (eq_yes v.vote.replica replica is.own),
      (
        not_from_true _ (and_from _ _ (lt_yes 0 v.vote.view (omega (arith, is.view, some))) (le_yes v.vote.view views (omega (arith, is.view, inside)))),
        (
          not_from_true _ (eq_yes _ me (ap (λ (x : ℕ). leader_of s (x + 1)) is.view ∙ leads)),
          (
            or_from _ _ (lt_no (v.vote.view + 1) (length bs + 1) (omega (arith, is.view)))
                (or_from _ _ (le_no v.vote.view rest.high.view (omega (arith, is.view, high)))
                (le_no (v.vote.view + 1) rest.asked (omega (arith, is.view, asked)))),
            (
              not_from_true _ is.seal_fits,
              (
                not_from_true _ (rw is.block (is_stored_at bs chain (length bs) (omega arith))),
                (
                  or_from _ _ (rw (is.block, view_is bs chain (length bs) (omega arith)) (not_from_true _ (eq_yes (length bs) v.vote.view (sym is.view))))
                      (not_from_true _ (rw is.order (and_from _ _ (lt_yes v.vote.view views (omega (arith, is.view, inside)))
                      (and_from _ _ (eq_yes sealed.order.replica replica is.order_own)
                      (and_from _ _ (eq_yes sealed.order.view (v.vote.view + 1) (omega (arith, is.order_view, is.view)))
                      (true_same sealed.order.parent v.vote.block (is.order_parent ∙ sym is.block))))))),
                  tt,
                ),
              ),
            ),
          ),
        ),
      ),
    )

    not_yet : (rest : Rest) (votes : List CertVote) (orders : List SealedOrder) → AreKept rest.boxes votes orders → RunFrom voter 0 votes
        → length votes ≤ replica
        → voted_reason (before rest) replica v.vote v.order ≡ Done
    not_yet rest votes orders kept run few = passes_all (voted_rows (before rest) replica v.vote v.order) (
      (rw (is.order, is.block) (not_from_true _ is.order_fits)),
      (
        rw (is.view, is.block) (not_voted rest votes orders replica kept run few),
        tt,
      ),
    )

    -- ---- it is stored

    module _ (rest : Rest) (votes : List CertVote) (orders : List SealedOrder) (kept : AreKept rest.boxes votes orders)
        (run : RunFrom voter 0 votes) (run_orders : RunFrom orderer 0 orders)
        (as_many : length orders ≡ length votes) (turn : replica ≡ length votes) where
      own_vote : (bare v.vote).replica ≡ 0 + length votes
      own_vote = omega (arith, is.own, turn)

      own_order : sealed.order.replica ≡ 0 + length orders
      own_order = omega (arith, is.order_own, turn, as_many)

      more : length (votes ++ bare v.vote ∷ []) ≡ length votes + 1
      more = length-append votes (bare v.vote ∷ [])

      first_vote : has_vote votes (bare v.vote).replica ≡ false
      first_vote = none_yet voter 0 (bare v.vote).replica votes run (omega (arith, is.own, turn))

      formed_none : length votes + 1 < quorum_of s → formed (before rest) (length bs) last (bare v.vote) (Some sealed) ≡ None
      unfolding formed
      formed_none few = rw (
        ballot_is rest votes orders kept,
        first_vote,
        goes_to_end voter 0 (bare v.vote).replica votes (bare v.vote) run own_vote,
        lt_yes (length (votes ++ bare v.vote ∷ [])) (quorum_of s) (omega (arith, more, few)),
      )

      keeping_more : length votes + 1 < quorum_of s → keeping (before rest) (length bs) last (bare v.vote) (Some sealed)
          ≡ before (record rest { boxes = ballot (votes ++ bare v.vote ∷ []) (orders ++ sealed ∷ []) ∷ [] })
      unfolding keeping
      keeping_more few = rw (
        formed_none few,
        others_are rest votes orders kept,
        ballot_is rest votes orders kept,
        first_vote,
        goes_to_end voter 0 (bare v.vote).replica votes (bare v.vote) run own_vote,
        lt_yes (length (votes ++ bare v.vote ∷ [])) (quorum_of s) (omega (arith, more, few)),
        goes_to_end orderer 0 sealed.order.replica orders sealed run_orders own_order,
      )

      abbrev pub whole : Formed
      whole = record { cert = record { view = length bs; block = last; votes = votes ++ bare v.vote ∷ [] }; orders = orders ++ sealed ∷ [] }

      formed_some : length votes + 1 ≡ quorum_of s → formed (before rest) (length bs) last (bare v.vote) (Some sealed) ≡ Some whole
      unfolding formed
      formed_some all = rw (
        ballot_is rest votes orders kept,
        first_vote,
        goes_to_end voter 0 (bare v.vote).replica votes (bare v.vote) run own_vote,
        lt_no (length (votes ++ bare v.vote ∷ [])) (quorum_of s) (omega (arith, more, all)),
        goes_to_end orderer 0 sealed.order.replica orders sealed run_orders own_order,
      )

      keeping_none : length votes + 1 ≡ quorum_of s → keeping (before rest) (length bs) last (bare v.vote) (Some sealed) ≡ before (record rest { boxes = [] })
      unfolding keeping
      keeping_none all = rw (formed_some all, others_are rest votes orders kept)

      -- A vote that does not complete the quorum is stored.
      pub is_kept : (made capacity : ℕ) → rest.high.view < length bs → rest.asked ≤ length bs → length votes + 1 < quorum_of s
          → on_vote fits gives (state_at (before rest) made capacity) replica v
          ≡ quiet (state_at (before (record rest { boxes = ballot (votes ++ bare v.vote ∷ []) (orders ++ sealed ∷ []) ∷ [] })) made capacity) Done
      unfolding vote_done
      is_kept made capacity high asked few =
          rw (in_time rest high asked, not_yet rest votes orders kept run (omega (arith, turn)), is.view, is.block, is.order, formed_none few, keeping_more few)

      abbrev pub after_form : Rest
      after_form = record (saw whole.cert (record rest { boxes = [] })) { asked = length bs + 1; proposed = length bs + 1; ask_cert = whole.cert; orders = [] }

      form : (made capacity : ℕ) → rest.high.view < length bs → made < capacity
          → certified gives (state_at (before (record rest { boxes = [] })) made capacity) whole
          ≡ record {
            reported = reported (state_at (before after_form) made capacity) Done (propose_spelling me (next_block whole) ∷ [])
                (to_each (range_with_len 0 s.n)
                (message_spelling (messages.Propose me (next_block whole) (gives made (propose_spelling me (next_block whole))))));
            state = state_at (before after_form) (made + 1) capacity;
          }
      unfolding certified proposal
      form made capacity high room =
          ap (λ (k : Known). if nat_eq (length bs) k.views then quiet (state_at k made capacity) Done
          else proposes gives (state_at (proposing_next whole.cert k) made capacity) (next_block whole))
          (sees s views me list bs chain (length bs + 1) (record rest { boxes = [] }) whole.cert (omega arith) (omega arith) refl (omega (arith, high)))
          ∙ rw (eq_no (length bs) views (λ same. omega (arith, same, inside)), eq_no made capacity (λ same. omega (arith, same, room)))

      -- The vote that completes the quorum forms the certificate, and the next block is proposed.
      pub is_last : (made capacity : ℕ) → rest.high.view < length bs → rest.asked ≤ length bs → length votes + 1 ≡ quorum_of s → made < capacity
          → on_vote fits gives (state_at (before rest) made capacity) replica v
          ≡ record {
            reported = reported (state_at (before after_form) made capacity) Done (propose_spelling me (next_block whole) ∷ [])
                (to_each (range_with_len 0 s.n)
                (message_spelling (messages.Propose me (next_block whole) (gives made (propose_spelling me (next_block whole))))));
            state = state_at (before after_form) (made + 1) capacity;
          }
      unfolding vote_done
      is_last made capacity high asked all room =
          rw (in_time rest high asked, not_yet rest votes orders kept run (omega (arith, turn)), is.view, is.block, is.order, formed_some all, keeping_none all)
          (form made capacity high room)
