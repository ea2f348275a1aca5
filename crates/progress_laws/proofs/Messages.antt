-- What can be written, and the block that a leader makes of n-f votes and orders.
use Rattle.std.proofs.Common.{◌≡◌, ℕ, zero, suc, ◌+◌, ◌^◌, ◌<◌, ◌≤◌, List, [], ◌∷◌, length, take, map, Bool, true, false, refl, sym, ap, subst, ◌∙◌, arith}
use Rattle.std.specs.Prelude.{All, filter, not, ◌==◌}
use Rattle.std.specs.List.{AllByRecursion as Each, list_all}
use Rattle.std.proofs.lemmas.Bool.Decides.{nat_tests}
use Rattle.seq_base.specs.declared.tx.Tx.{Tx}
use Rattle.seq_base.specs.declared.digest.Digest.{Digest}
use Rattle.seq_base.specs.declared.block.Block.{Block}
use Rattle.seq_base.specs.declared.block.Cert.{Cert}
use Rattle.seq_base.specs.declared.block.CertVote.{CertVote}
use Rattle.seq_base.specs.declared.order.LocalOrder.{LocalOrder}
use Rattle.seq_base.specs.declared.order.SealedOrder.{SealedOrder}
use Rattle.seq_base.specs.Lists.{AreDistinct}
use Rattle.seq_base.specs.Setting.{Parameters, quorum_of}
use Rattle.seq_base.specs.Spelling.{vote_spelling, order_spelling}
use Rattle.seq_base.specs.Tx.{FitsTx}
use Rattle.seq_base.specs.Writable.{IsWritableBlock, IsWritableCert, IsWritableVote, IsWritableOrder, IsWritableList}
use Rattle.chain_state.specs.Standings.{Standings, fits as fits_chain, is_used, is_waiting, order_drawn}
use Rattle.quorum_cert.specs.Certificates.{is_good, is_first, has_quorum}
use Rattle.chain_store.specs.Chains.{chain_state_of}
use Rattle.headline_laws.proofs.Orders.{writable_list}
use Rattle.journal_rules.proofs.Stores.{block_long}
use Rattle.node_core.specs.Rows.{Check, is_fit, is_placed, is_sealed, lists_fit}
use Rattle.node_core.specs.State.{Known}
use Rattle.run_verdict.specs.Parts.{Part, part, vote_part, cert_parts, order_part, block_parts}
use Rattle.progress_laws.proofs.Chains.{digest_at}
use Rattle.progress_laws.proofs.StateSummary.{eq_yes, lt_yes}
use Rattle.progress_laws.proofs.ProposeStep.{order_over}
use Rattle.progress_laws.proofs.ReplicaLists.{RunFrom, rises_below, rises_from}
use Rattle.progress_laws.proofs.VoteSteps.{voter, orderer}
use Rattle.round_rules.proofs.Places.{found_at}
use Rattle.std.proofs.lemmas.Bool.{and_from, or_right}
use Rattle.progress_laws.proofs.Items.{each_more}
use Rattle.agreement_laws.proofs.Digests.{true_same}

pub digest_long : (bs : List Block) (k : ℕ) → k ≤ length bs → length (digest_at bs k).0 ≡ 32
digest_long bs zero inside = refl
digest_long bs (suc k) inside = (let (b, found) = found_at bs k (omega (arith, inside)) in rw found (block_long b))

-- a drawn list passes the test by which it is drawn
drawn_passes : (m : ℕ) (p : Tx → Bool) (txs : List Tx) → list_all p (take m (filter p txs)) ≡ true
drawn_passes zero p txs = refl
drawn_passes (suc m) p [] = refl
drawn_passes (suc m) p (t ∷ ts) = by (p t) refl (drawn_passes (suc m) p ts) (drawn_passes m p ts)
  where
    by : (x : Bool) → p t ≡ x → list_all p (take (suc m) (filter p ts)) ≡ true → list_all p (take m (filter p ts)) ≡ true
        → list_all p (take (suc m) (filter p (t ∷ ts))) ≡ true
    by true is later rest = rw (is, is) rest
    by false is later rest = rw is later

-- an order that is drawn fits the chain over which it is drawn
pub drawn_fits : (replica view : ℕ) (parent : Digest) (known : List Tx) (c : Standings) → fits_chain c (order_drawn replica view parent known c) ≡ true
drawn_fits replica view parent known c = and_from _ _ (drawn_passes 128 (λ t. not (is_used c t)) known) (drawn_passes 256 (is_waiting c) known)

-- ---- valid orders and votes

module _ (fits : Check) (s : Parameters) (lists : ℕ → List Tx) (WasSealed : Part → Type 0) (bs : List Block) where
  abbrev pub last : Digest
  last = digest_at bs (length bs)

  -- a replica's order for the next view over the last block
  pub record IsGoodOrder (sealed : SealedOrder) : Type 0 where
    pub below : sealed.order.replica < s.n
    pub drawn : sealed.order ≡ order_over s sealed.order.replica (length bs + 1) (lists sealed.order.replica) bs last
    pub seal_fits : fits sealed.order.replica (order_spelling sealed.order) sealed.seal ≡ true
    pub short : length sealed.seal ≤ 4916
    pub was_sealed : WasSealed (order_part sealed)

  -- a replica's vote for the last block
  pub record IsGoodVote (v : CertVote) : Type 0 where
    pub below : v.replica < s.n
    pub seal_fits : fits v.replica (vote_spelling v.replica (length bs) last) v.seal ≡ true
    pub short : length v.seal ≤ 4916
    pub was_sealed : WasSealed (part v.replica (vote_spelling v.replica (length bs) last) v.seal)

  -- a block of the next view of n-f orders, over a good certificate
  pub record IsMade (b : Block) : Type 0 where
    pub view : b.view ≡ length bs + 1
    pub cert_view : b.cert.view ≡ length bs
    pub cert_block : b.cert.block ≡ last
    pub good : is_good fits s b.cert ≡ true
    pub cert_written : IsWritableCert b.cert
    pub cert_sealed : Each WasSealed (cert_parts b.cert)
    pub count : length b.orders ≡ quorum_of s
    pub ascending : RunFrom orderer 0 b.orders
    pub orders : Each IsGoodOrder b.orders

  module _ (small : s.n ≤ 16) (proper : (r : ℕ) → r < s.n → AreDistinct (lists r) × All FitsTx (lists r)) (few_views : length bs + 1 < 2 ^ 32) where
    pub order_written : (sealed : SealedOrder) → IsGoodOrder sealed → IsWritableOrder sealed
    order_written sealed good =
        let r : ℕ = sealed.order.replica in
        let (distinct, each) = proper r good.below in
        record {
          replica = omega (arith, good.below, small);
          view = rw (ap (λ (o : LocalOrder). o.view) good.drawn) few_views;
          parent = rw (ap (λ (o : LocalOrder). o.parent) good.drawn) (digest_long bs (length bs) (omega arith));
          fresh = subst (λ (o : LocalOrder). IsWritableList 128 o.fresh) (sym good.drawn) (writable_list 128 _ (lists r) distinct each);
          late = subst (λ (o : LocalOrder). IsWritableList 256 o.late) (sym good.drawn) (writable_list 256 _ (lists r) distinct each);
          seal = good.short;
        }

    orders_written : (orders : List SealedOrder) → Each IsGoodOrder orders → Each IsWritableOrder orders
    orders_written [] each = tt
    orders_written (o ∷ orders) each = (order_written o each.0, orders_written orders each.1)

    pub block_written : (b : Block) → IsMade b → IsWritableBlock b
    block_written b made = record {
      view = rw made.view few_views;
      cert = made.cert_written;
      few = (let is : length b.orders ≡ quorum_of s = made.count in omega (arith, is, small));
      ascending = rises_from orderer 0 b.orders made.ascending;
      each = orders_written b.orders made.orders;
    }

  -- ---- the block fits

  placed : (known : Known) (b : Block) → known.setting ≡ s → IsMade b → (orders : List SealedOrder) → Each IsGoodOrder orders
      → list_all (λ sealed. is_placed known b sealed.order) orders ≡ true
  placed known b setting made [] each = refl
  placed known b setting made (o ∷ orders) each =
      let view : o.order.view ≡ b.view = ap (λ (x : LocalOrder). x.view) each.0.drawn ∙ sym made.view in
      let parent : o.order.parent ≡ b.cert.block = ap (λ (x : LocalOrder). x.parent) each.0.drawn ∙ sym made.cert_block in
      and_from (is_placed known b o.order) _
      (and_from _ _ (eq_yes o.order.view b.view view)
      (and_from _ _ (true_same o.order.parent b.cert.block parent) (rw setting (lt_yes o.order.replica s.n each.0.below))))
      (placed known b setting made orders each.1)

  fit_lists : (known : Known) (b : Block) → known.setting ≡ s → known.store ≡ bs → IsMade b → (orders : List SealedOrder)
      → Each IsGoodOrder orders → list_all (λ sealed. lists_fit known b.cert.block sealed.order) orders ≡ true
  fit_lists known b setting store made [] each = refl
  fit_lists known b setting store made (o ∷ orders) each =
      and_from (lists_fit known b.cert.block o.order) _
      (rw (setting, store, made.cert_block)
      (ap (fits_chain (chain_state_of (record { setting = s; blocks = bs }) last)) each.0.drawn
      ∙ drawn_fits o.order.replica (length bs + 1) last (lists o.order.replica) (chain_state_of (record { setting = s; blocks = bs }) last)))
      (fit_lists known b setting store made orders each.1)

  fit_seals : (orders : List SealedOrder) → Each IsGoodOrder orders → list_all (is_sealed fits) orders ≡ true
  fit_seals [] each = refl
  fit_seals (o ∷ orders) each = and_from (is_sealed fits o) _ each.0.seal_fits (fit_seals orders each.1)

  pub fit : (b : Block) → IsMade b → (known : Known) → known.setting ≡ s → known.store ≡ bs → is_fit fits known b ≡ true
  fit b made known setting store =
      and_from _ _ (rw setting (eq_yes (length b.orders) (quorum_of s) made.count))
      (and_from _ _ (placed known b setting made b.orders made.orders)
      (and_from _ _ (fit_lists known b setting store made b.orders made.orders) (fit_seals b.orders made.orders)))

  -- ---- its parts

  order_parts : (orders : List SealedOrder) → Each IsGoodOrder orders → Each WasSealed (map order_part orders)
  order_parts [] each = tt
  order_parts (o ∷ orders) each = (each.0.was_sealed, order_parts orders each.1)

  pub parts_sealed : (b : Block) → IsMade b → Each WasSealed (block_parts b)
  parts_sealed b made = each_more WasSealed (cert_parts b.cert) (map order_part b.orders) made.cert_sealed (order_parts b.orders made.orders)

  -- ---- a certificate of good votes

  vote_seals : (votes : List CertVote) (all : List CertVote) → Each IsGoodVote votes
      → list_all (λ (v : CertVote). fits v.replica (vote_spelling v.replica (length bs) last) v.seal) votes ≡ true
  vote_seals [] all each = refl
  vote_seals (v ∷ votes) all each = and_from (fits v.replica (vote_spelling v.replica (length bs) last) v.seal) _ each.0.seal_fits (vote_seals votes all each.1)

  abbrev pub cert_of : List CertVote → Cert
  cert_of votes = record { view = length bs; block = last; votes = votes }

  pub cert_good : (votes : List CertVote) → 1 ≤ length bs → length votes ≡ quorum_of s → quorum_of s ≤ s.n → RunFrom voter 0 votes
      → Each IsGoodVote votes → is_good fits s (cert_of votes) ≡ true
  cert_good votes some count few run each =
      or_right (is_first (cert_of votes)) _
      (and_from (has_quorum s (cert_of votes)) _
      (and_from _ _ (lt_yes 0 (length bs) (omega (arith, some)))
      (and_from _ _ (let yes_count : (length votes == quorum_of s) ≡ true = grind (arith, nat_tests, count) in yes_count)
      (rises_below s.n 0 votes run (omega (arith, count, few)))))
      (vote_seals votes votes each))

  vote_parts_sealed : (votes : List CertVote) (c : Cert) → c.view ≡ length bs → c.block ≡ last → Each IsGoodVote votes
      → Each WasSealed (map (vote_part c) votes)
  vote_parts_sealed [] c view block each = tt
  vote_parts_sealed (v ∷ votes) c view block each = (rw (view, block) each.0.was_sealed, vote_parts_sealed votes c view block each.1)

  pub cert_sealed : (votes : List CertVote) → Each IsGoodVote votes → Each WasSealed (cert_parts (cert_of votes))
  cert_sealed votes each = vote_parts_sealed votes (cert_of votes) refl refl each

  pub cert_written : (votes : List CertVote) → s.n ≤ 16 → length bs < 2 ^ 32 → length votes ≤ s.n → RunFrom voter 0 votes
      → Each IsGoodVote votes → IsWritableCert (cert_of votes)
  cert_written votes small few_views few run each = record {
    view = few_views;
    block = digest_long bs (length bs) (omega arith);
    few = omega (arith, few, small);
    ascending = rises_from voter 0 votes run;
    each = each_written votes each;
  }
    where
      each_written : (votes : List CertVote) → Each IsGoodVote votes → Each IsWritableVote votes
      each_written [] each = tt
      each_written (v ∷ votes) each = (record { replica = omega (arith, each.0.below, small); seal = each.0.short }, each_written votes each.1)
