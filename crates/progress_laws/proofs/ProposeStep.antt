-- A block is proposed: the replica accepts it and votes, with its order for the next view.
use Rattle.std.proofs.Common.{◌≡◌, ℕ, suc, ◌+◌, ◌<◌, ◌≤◌, List, [], ◌∷◌, ◌++◌, length, true, Some, None, refl, sym, ap, ◌∙◌, arith}
use Rattle.std.proofs.lemmas.Bool.{and_from, not_from_true, or_from}
use Rattle.seq_base.specs.declared.tx.Tx.{Tx}
use Rattle.seq_base.specs.declared.digest.Digest.{Digest}
use Rattle.seq_base.specs.declared.block.Block.{Block}
use Rattle.seq_base.specs.declared.order.LocalOrder.{LocalOrder}
use Rattle.seq_base.specs.declared.message.Message.TheVariants as messages
use Rattle.seq_base.specs.Setting.{Parameters, leader_of}
use Rattle.seq_base.specs.Spelling.{propose_spelling, vote_spelling, order_spelling, message_spelling}
use Rattle.block_store.specs.Store.{block_digest, with_block}
use Rattle.chain_state.specs.Standings.{order_drawn}
use Rattle.quorum_cert.specs.Certificates.{is_good}
use Rattle.wire_view.specs.Views.{Proposed}
use Rattle.node_core.specs.declared.event.Reason.TheVariants.{Done}
use Rattle.chain_store.specs.Chains.{chain_state_of}
use Rattle.node_core.specs.State.{Known}
use Rattle.node_core.specs.See.{taken}
use Rattle.node_core.specs.Reported.{Gives, reported}
use Rattle.node_core.specs.Rows.{Check, is_fit}
use Rattle.node_core.specs.Propose.{propose_rows, propose_reason, proposed_rows, proposed_reason, propose_done, on_propose, voted}
use Rattle.progress_laws.proofs.Chains.{IsChain, IsNext, digest_at, is_safe_next, is_stored_at, no_clash, goes_last, safe_stays}
use Rattle.progress_laws.proofs.StateSummary.{eq_yes, eq_no, lt_yes, lt_no, le_yes, le_no, passes_all, Rest, standing, state_at, higher, saw, higher_is, sees, no_bad}

-- a block that each replica accepts which has stored those before it
pub record IsDue (fits : Check) (s : Parameters) (bs : List Block) (b : Block) : Type 0 where
  pub next : IsNext bs b
  pub good : is_good fits s b.cert ≡ true
  pub fit : (known : Known) → known.setting ≡ s → known.store ≡ bs → is_fit fits known b ≡ true

-- the order that a replica draws over a chain of stored blocks
abbrev pub order_over : Parameters → ℕ → ℕ → List Tx → List Block → Digest → LocalOrder
order_over s me view list bs parent = order_drawn me view parent list (chain_state_of (record { setting = s; blocks = bs }) parent)

-- a replica after its vote
abbrev pub after_vote : Block → Rest → Rest
after_vote b rest = record (saw b.cert rest) { ordered = b.view + 1; voted = b.view }

module _ (fits : Check) (gives : Gives) (s : Parameters) (views me : ℕ) (list : List Tx) (bs : List Block) (chain : IsChain bs) (b : Block)
    (due : IsDue fits s bs b) where
  abbrev before : Rest → Known
  before rest = standing s views me list bs b.view rest

  abbrev pub following : Rest → Known
  following rest = standing s views me list (bs ++ b ∷ []) (b.view + 1) (after_vote b rest)

  abbrev pub order : LocalOrder
  order = order_over s me (b.view + 1) list (bs ++ b ∷ []) (block_digest b)

  takes : (rest : Rest) → suc rest.high.view ≤ b.view
      → taken b (before rest) ≡ record (standing s views me list bs b.view (saw b.cert rest)) { store = bs ++ b ∷ [] }
  takes rest low =
      let cert : b.cert.view ≡ length bs = due.next.cert in
      let view : b.view ≡ suc (length bs) = due.next.view in
      let parent : b.cert.block ≡ digest_at bs b.cert.view = due.next.parent ∙ ap (digest_at bs) (sym cert) in
      ap (λ (k : Known). record k { store = with_block b bs })
      (sees s views me list bs chain b.view rest b.cert (omega (arith, cert, view)) (omega (arith, cert)) parent (omega (arith, cert, view, low)))
      ∙ ap (λ (store : List Block). record (standing s views me list bs b.view (saw b.cert rest)) { store = store }) (goes_last bs b due.next)

  is_done : (p : Proposed) (from : ℕ) (rest : Rest) → p.block ≡ b → p.replica ≡ from → from ≡ leader_of s b.view
      → fits from (propose_spelling p.replica b) p.seal ≡ true → b.view ≤ views
      → suc rest.high.view ≤ b.view → suc rest.voted ≤ b.view → propose_reason fits (before rest) from p ≡ Done
  is_done p from rest block own leads sealed inside low voted =
      let cert : b.cert.view ≡ length bs = due.next.cert in
      let view : b.view ≡ suc (length bs) = due.next.view in
      let parent : b.cert.block ≡ digest_at bs b.cert.view = due.next.parent ∙ ap (digest_at bs) (sym cert) in
      rw block (passes_all (propose_rows fits (before rest) from (record { replica = p.replica; block = b; seal = p.seal })) (
        not_from_true _ (eq_yes p.replica from own),
        (
          not_from_true _ (and_from _ _ (lt_yes 0 b.view (omega (arith, view))) (le_yes b.view views inside)),
          (
            not_from_true _ (eq_yes from (leader_of s b.view) leads),
            (
              or_from _ _ (lt_no b.view b.view (omega arith)) (le_no b.view rest.high.view (omega (arith, low))),
              (
                not_from_true _ sealed,
                (
                  no_bad s views me list bs chain fits (before rest) b.cert b.view refl refl (omega (arith, cert, view)) (omega (arith, cert)) parent due.good,
                  (
                    not_from_true _ (rw due.next.parent (is_stored_at bs chain (length bs) (omega arith))),
                    tt,
                  ),
                ),
              ),
            ),
          ),
        ),
      ))

  is_taken : (rest : Rest) → suc rest.high.view ≤ b.view → suc rest.voted ≤ b.view → proposed_reason fits (before rest) b ≡ Done
  is_taken rest low voted =
      let view : b.view ≡ suc (length bs) = due.next.view in
      passes_all (proposed_rows fits (before rest) b) (
        not_from_true _ (due.fit (before rest) refl refl),
        (
          no_clash bs b due.next,
          (
            not_from_true _ (is_safe_next bs chain rest.high.view rest.voted b (omega (arith, low, view)) due.next.cert due.next.parent),
            (
              le_no b.view rest.voted (omega (arith, voted)),
              tt,
            ),
          ),
        ),
      )

  -- the turn of a replica that votes
  pub votes : (p : Proposed) (from : ℕ) (rest : Rest) (made capacity : ℕ) → p.block ≡ b → p.replica ≡ from → from ≡ leader_of s b.view
      → fits from (propose_spelling p.replica b) p.seal ≡ true → b.view < views → suc rest.high.view ≤ b.view → suc rest.voted ≤ b.view → made + 2 ≤ capacity
      → on_propose fits gives (state_at (before rest) made capacity) from p ≡ record {
        reported = reported (state_at (following rest) made capacity) Done (vote_spelling me b.view (block_digest b) ∷ order_spelling order ∷ [])
            (record {
              to = leader_of s (b.view + 1);
              bytes = message_spelling
                  (messages.Vote (record { replica = me; view = b.view; block = block_digest b; seal = gives made (vote_spelling me b.view (block_digest b)) })
                  (Some (record { order = order; seal = gives (made + 1) (order_spelling order) })));
            } ∷ []);
        state = state_at (following rest) (made + 1 + 1) capacity;
      }
  unfolding propose_done voted
  votes p from rest made capacity block own leads sealed inside low voted_low room =
      let view : b.view ≡ suc (length bs) = due.next.view in
      let cert : b.cert.view ≡ length bs = due.next.cert in
      let high : (higher rest.high b.cert).view ≡ b.cert.view = higher_is rest.high b.cert (omega (arith, cert, view, low)) in
      rw (is_done p from rest block own leads sealed (omega (arith, inside)) low voted_low, block, is_taken rest low voted_low)
      (ap (λ (k : Known). voted gives (state_at k made capacity) b.view (block_digest b)) (takes rest low)
      ∙ rw (
        lt_yes b.view views inside,
        eq_no made capacity (λ same. omega (arith, same, room)),
        eq_no (made + 1) capacity (λ same. omega (arith, same, room)),
        safe_stays bs b due.next b.view (higher rest.high b.cert).view (omega (arith, high, cert)),
      ))

  -- ---- in the last view

  abbrev pub after_last : Rest → Known
  after_last rest = standing s views me list (bs ++ b ∷ []) b.view (record (saw b.cert rest) { voted = b.view })

  -- In the last view the vote carries no order.
  pub votes_last : (p : Proposed) (from : ℕ) (rest : Rest) (made capacity : ℕ) → p.block ≡ b → p.replica ≡ from → from ≡ leader_of s b.view
      → fits from (propose_spelling p.replica b) p.seal ≡ true → b.view ≡ views → suc rest.high.view ≤ b.view → suc rest.voted ≤ b.view → made + 1 ≤ capacity
      → on_propose fits gives (state_at (before rest) made capacity) from p ≡ record {
        reported = reported (state_at (after_last rest) made capacity) Done (vote_spelling me b.view (block_digest b) ∷ [])
            (record {
              to = leader_of s (b.view + 1);
              bytes = message_spelling (messages.Vote
                  (record { replica = me; view = b.view; block = block_digest b; seal = gives made (vote_spelling me b.view (block_digest b)) }) None);
            } ∷ []);
        state = state_at (after_last rest) (made + 1) capacity;
      }
  unfolding propose_done voted
  votes_last p from rest made capacity block own leads sealed at_end low voted_low room =
      let view : b.view ≡ suc (length bs) = due.next.view in
      let cert : b.cert.view ≡ length bs = due.next.cert in
      let high : (higher rest.high b.cert).view ≡ b.cert.view = higher_is rest.high b.cert (omega (arith, cert, view, low)) in
      rw (is_done p from rest block own leads sealed (omega (arith, at_end)) low voted_low, block, is_taken rest low voted_low)
      (ap (λ (k : Known). voted gives (state_at k made capacity) b.view (block_digest b)) (takes rest low)
      ∙ rw (
        lt_no b.view views (omega (arith, at_end)),
        eq_no made capacity (λ same. omega (arith, same, room)),
        safe_stays bs b due.next b.view (higher rest.high b.cert).view (omega (arith, high, cert)),
      ))
