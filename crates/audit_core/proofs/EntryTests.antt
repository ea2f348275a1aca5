-- The tests of an entry on the state of one pass are those on the prefix before it.
use Rattle.std.proofs.Common.{◌≡◌, ◌≢◌, ℕ, ◌<◌, List, [], ◌∷◌, ◌++◌, length, map, take, Bool, true, false, ◌&&◌, ◌||◌, ◌==◌, Option, Some, None, refl, sym, ap, subst, ◌∙◌, inl, inr, ◌⊎◌}
use Rattle.std.specs.Prelude.{All, not, nat_lt, if◌then◌else◌}
use Rattle.std.specs.List.{AllPairs, list_all}
use Rattle.std.specs.Bool.{Decides}
use Rattle.std.specs.Cmp.Lexicographic.{pointwise}
use Rattle.std.proofs.lemmas.Bool.Decides.{Decides-ltb, Decides-not, Decides-or, same_from_decides}
use Rattle.std.proofs.lemmas.Option.{same_Some}
use Rattle.std.proofs.lemmas.Grind.{flat_map-append}
use Rattle.std.proofs.lemmas.List.{append-nil, map-append}
use Rattle.std.proofs.lemmas.List.Elements.{filter_map-append}
use Rattle.seq_base.specs.declared.tx.Tx.{Tx}
use Rattle.seq_base.specs.declared.block.Block.{Block}
use Rattle.seq_base.specs.declared.block.Cert.{Cert}
use Rattle.seq_base.specs.declared.digest.Digest.{Digest}
use Rattle.seq_base.specs.Blocks.{digest_eq}
use Rattle.seq_base.specs.Setting.{Parameters, quorum_of}
use Rattle.seq_base.specs.Spelling.{vote_spelling}
use Rattle.seq_base.specs.Tx.{tx_eq}
use Rattle.block_store.specs.Store.{block_digest, clashes, is_stored}
use Rattle.chain_state.specs.Standings.{Standings, fits as fits_chain}
use Rattle.chain_store.specs.Chains.{chain_state_of}
use Rattle.block_store.specs.Chains.{extends, Extends}
use Rattle.hotstuff_core.specs.Rules.{view_at, is_at, is_safe}
use Rattle.agreement_laws.specs.JournalPrefixes.{LeadsTo as ExtendsNamed}
use Rattle.quorum_cert.specs.Certificates.{is_good}
use Rattle.wire_view.specs.declared.messages.MessageView.{MessageView}
use Rattle.wire_view.specs.declared.messages.MessageView.TheVariants.{NewView, Ask, Order, Propose, Vote, Fetch, Give}
use Rattle.agreement_laws.specs.Journals.{Named, Ballot, Entry as Plain}
use Rattle.agreement_laws.specs.JournalPrefixes.{sealed_in as ballots_in, block_of as block_named_in}
use Rattle.node_core.specs.declared.entry.Entry.{Entry}
use Rattle.node_core.specs.Rows.{is_sealed}
use Rattle.journal_rules.specs.Chained.{standing_at}
use Rattle.journal_rules.specs.JournalPrefixes.{arrived_by, arrived_in}
use Rattle.journal_rules.specs.Rules.{Scale, StandsAlone, up_to, stored_in, lock_in, ballots_by}
use Rattle.journal_rules.specs.Sealed.{Mark, mark_of, marks_in, sealed_in}
use Rattle.journal_rules.specs.Shown.{shown, shown_message, named}
use Rattle.journal_rules.specs.Tests.{knows, rises, are_apart, mark_eq, is_stored_at, is_valid_in, may_be_done, stands_alone}
use Rattle.journal_rules.proofs.ChainTies.{StandsForOneMore}
use Rattle.journal_rules.specs.Stores.{at}
use Rattle.journal_rules.proofs.Stores.{at_view}
use Rattle.journal_rules.proofs.RuleTests.{alone_decides, pairs_decide, mark_decides, fourth_shows, restate}
use Rattle.journal_rules.proofs.Alone.{alone_shows}
use Rattle.audit_core.specs.Bringing.{carried_if, may_on, alone_on}
use Rattle.audit_core.specs.Audited.{Audited, stored_of}
use Rattle.audit_core.specs.Judging.{goes_on, rises_on}
use Rattle.audit_core.specs.Marking.{are_new}
use Rattle.audit_core.specs.Stands.{Stands}
use Rattle.audit_core.specs.Valid.{has_view, cert_on, order_on, valid_on}
use Rattle.audit_core.specs.Voting.{rises_from}
use Rattle.audit_core.proofs.KnownArrivals.{goes_on_shows}
use Rattle.audit_core.proofs.StoreRules.{view_shows, state_shows, found_when, safe_from, safe_when}
use Rattle.audit_core.proofs.AscendingMarks.{rises_show, marks_show}

and_comm : (a b : Bool) → (a && b) ≡ (b && a)
and_comm true true = refl
and_comm true false = refl
and_comm false true = refl
and_comm false false = refl

-- two tests of each element, one after the other
all_both : {X : Type 0} (p q : X → Bool) (xs : List X) → list_all (λ x. p x && q x) xs ≡ (list_all p xs && list_all q xs)
all_both p q [] = refl
all_both p q (x ∷ xs) = ap (λ (t : Bool). (p x && q x) && t) (all_both p q xs) ∙ swap (p x) (q x) (list_all p xs) (list_all q xs)
  where
    swap : (a b c d : Bool) → ((a && b) && (c && d)) ≡ ((a && c) && (b && d))
    swap true true c d = refl
    swap true false c d = sym (and_comm c false)
    swap false b c d = refl

-- the tests of a block, in the order in which they are stated; the last one is decided if a parent is stored
in_order : (below count good stored placed sealed a b : Bool) → (stored ≡ true → a ≡ b)
    → ((below && (count && ((good && stored) && (placed && sealed)))) && a) ≡ (good && (stored && (below && (count && (placed && (sealed && b))))))
in_order false count good stored placed sealed a b on = sym (none good stored)
  where
    none : (x y : Bool) → (x && (y && false)) ≡ false
    none true true = refl
    none true false = refl
    none false y = refl
in_order true false good stored placed sealed a b on = sym (none good stored)
  where
    none : (x y : Bool) → (x && (y && false)) ≡ false
    none true true = refl
    none true false = refl
    none false y = refl
in_order true true false stored placed sealed a b on = refl
in_order true true true false placed sealed a b on = refl
in_order true true true true false sealed a b on = refl
in_order true true true true true false a b on = refl
in_order true true true true true true a b on = on refl

module _ (by : Scale) (before : List Entry) (j : Audited) (stands : Stands by before j) (e : Entry) where
  pub arrived_more : arrived_in (up_to before e) ≡ arrived_in before ++ arrived_by e.event
  arrived_more = flat_map-append (λ (x : Entry). arrived_by x.event) before (e ∷ [])
      ∙ ap (λ (ts : List Tx). arrived_in before ++ ts) (append-nil (arrived_by e.event))

  pub ballots_more : ballots_in (map shown (up_to before e)) ≡ ballots_in (map shown before) ++ ballots_by e
  ballots_more = ap ballots_in (map-append shown before (e ∷ [])) ∙ flat_map-append (λ (x : Plain). x.sealed) (map shown before) (shown e ∷ [])
      ∙ ap (λ (vs : List Ballot). ballots_in (map shown before) ++ vs) (append-nil (ballots_by e))

  pub marks_more : marks_in (sealed_in (up_to before e)) ≡ marks_in (sealed_in before) ++ marks_in e.turned.sealed
  marks_more =
      ap marks_in (flat_map-append (λ (x : Entry). x.turned.sealed) before (e ∷ [])
      ∙ ap (λ (ss : List (List ℕ)). sealed_in before ++ ss) (append-nil e.turned.sealed))
      ∙ filter_map-append mark_of (sealed_in before) e.turned.sealed

  -- ---- rule 1

  pub knows_reported : goes_on j.arrivals j.kept e.turned.kept (arrived_by e.event) ≡ knows by before e
  knows_reported =
      ap (λ (ts : List Tx). goes_on ts j.kept e.turned.kept (arrived_by e.event)) stands.arrivals
      ∙ ap (λ (k : ℕ). goes_on by.arrivals k e.turned.kept (arrived_by e.event)) stands.kept
      ∙ goes_on_shows by.arrivals (arrived_in before) (arrived_by e.event) e.turned.kept stands.begins
      ∙ ap (λ (ts : List Tx). pointwise tx_eq ts (take e.turned.kept by.arrivals) && (e.turned.kept == length ts)) (sym arrived_more)

  -- ---- rule 4

  pub rises_reported : rises_on j e ≡ rises by before e
  rises_reported =
      ap (λ (v : ℕ). rises_from v j.safety.voted (ballots_by e)) (at_view j.store j.safety.lock (lock_in by.setting before) stands.ties.safe_tied.at_lock)
      ∙ same_from_decides
      {P = AllPairs (λ earlier later. earlier.view < later.view) (ballots_in (map shown before) ++ ballots_by e)
      × All (λ v. (lock_in by.setting before).view < v.view) (ballots_by e)}
      (rises_from (lock_in by.setting before).view j.safety.voted (ballots_by e)) (rises by before e)
      (rises_show (lock_in by.setting before).view j.safety.voted (ballots_in (map shown before)) (ballots_by e) stands.voted stands.rise)
      (subst (λ (vs : List Ballot). Decides (rises by before e)
      (AllPairs (λ earlier later. earlier.view < later.view) vs × All (λ v. (lock_in by.setting before).view < v.view) (ballots_by e)))
      ballots_more four)
    where
      four : Decides (rises by before e) (AllPairs (λ earlier later. earlier.view < later.view) (ballots_in (map shown (up_to before e)))
          × All (λ v. (lock_in by.setting before).view < v.view) (ballots_by e))
      four = restate (rises by before e) (fourth_shows by before e) (λ r. (r.rise, r.above_lock)) (λ p. record { rise = p.0; above_lock = p.1 })

  -- ---- rule 2

  pub marks_reported : are_new j.marks (marks_in e.turned.sealed) ≡ are_apart (marks_in (sealed_in (up_to before e)))
  marks_reported =
      same_from_decides {P = AllPairs (λ a b. a ≢ b) (marks_in (sealed_in before) ++ marks_in e.turned.sealed)}
      (are_new j.marks (marks_in e.turned.sealed)) (are_apart (marks_in (sealed_in (up_to before e))))
      (marks_show j.marks (marks_in (sealed_in before)) (marks_in e.turned.sealed) stands.marks stands.apart)
      (subst (λ (ms : List Mark). Decides (are_apart ms) (AllPairs (λ a b. a ≢ b) (marks_in (sealed_in before) ++ marks_in e.turned.sealed))) (sym marks_more)
      (pairs_decide (λ (a b : Mark). not (mark_eq a b)) (λ a b. a ≢ b) (λ a b. Decides-not (mark_eq a b) (mark_decides a b))
      (marks_in (sealed_in before) ++ marks_in e.turned.sealed)))

  -- a certificate of a stored block
  cert_reported : (c : Cert) → cert_on by.fits (stored_of j) c ≡ (is_good by.fits by.setting c && is_stored_at (stored_in before) c.block c.view)
  cert_reported c =
      ap (λ (s : Parameters). has_view j.store c.block c.view && is_good by.fits s c) stands.setting
      ∙ ap (λ (t : Bool). t && is_good by.fits by.setting c) (view_shows j.store before stands.ties.safe_tied.stores c.block c.view)
      ∙ and_comm (is_stored_at (stored_in before) c.block c.view) (is_good by.fits by.setting c)

  module _ (one_more : StandsForOneMore) where
    -- the orders of a block, each test separately
    orders_reported : (b : Block) → list_all (order_on by.fits (stored_of j) b) b.orders ≡
        (list_all (λ sealed. (sealed.order.view == b.view) && (digest_eq sealed.order.parent b.cert.block && nat_lt sealed.order.replica by.setting.n)) b.orders
        && list_all (is_sealed by.fits) b.orders)
    orders_reported b =
        ap (λ (s : Parameters). list_all (order_on by.fits (record { setting = s; blocks = j.store }) b) b.orders) stands.setting
        ∙ all_both (λ sealed. (sealed.order.view == b.view) && (digest_eq sealed.order.parent b.cert.block && nat_lt sealed.order.replica by.setting.n))
        (is_sealed by.fits) b.orders

    abbrev lists_on : Standings → Block → Bool
    lists_on c b = list_all (λ sealed. fits_chain c sealed.order) b.orders

    valid_reported : (b : Block) → valid_on by.fits (stored_of j) b ≡ is_valid_in by before b
    valid_reported b =
        ap (λ (s : Parameters). (nat_lt b.cert.view b.view
        && ((length b.orders == quorum_of s) && (cert_on by.fits (stored_of j) b.cert && list_all (order_on by.fits (stored_of j) b) b.orders)))
        && lists_on (chain_state_of (record { setting = s; blocks = j.store }) b.cert.block) b) stands.setting
        ∙ ap (λ (t : Bool).
        (nat_lt b.cert.view b.view && ((length b.orders == quorum_of by.setting) && (t && list_all (order_on by.fits (stored_of j) b) b.orders)))
        && lists_on (chain_state_of (record { setting = by.setting; blocks = j.store }) b.cert.block) b) (cert_reported b.cert)
        ∙ ap (λ (t : Bool). (nat_lt b.cert.view b.view && ((length b.orders == quorum_of by.setting)
        && ((is_good by.fits by.setting b.cert && is_stored_at (stored_in before) b.cert.block b.cert.view) && t)))
        && lists_on (chain_state_of (record { setting = by.setting; blocks = j.store }) b.cert.block) b) (orders_reported b)
        ∙ in_order (nat_lt b.cert.view b.view) (length b.orders == quorum_of by.setting) (is_good by.fits by.setting b.cert)
        (is_stored_at (stored_in before) b.cert.block b.cert.view)
        (list_all (λ sealed. (sealed.order.view == b.view) && (digest_eq sealed.order.parent b.cert.block && nat_lt sealed.order.replica by.setting.n))
        b.orders) (list_all (is_sealed by.fits) b.orders)
        (lists_on (chain_state_of (record { setting = by.setting; blocks = j.store }) b.cert.block) b) (lists_on (standing_at by.setting before b.cert.block) b)
        (λ is.
        let n = found_when j.store before stands.ties.safe_tied.stores b.cert.block b.cert.view
        (view_shows j.store before stands.ties.safe_tied.stores b.cert.block b.cert.view ∙ is) in
        ap (λ (c : Standings). lists_on c b) (state_shows j.store before stands.ties.safe_tied.stores one_more by.setting stands.ties.led b.cert.block n.0 n.1))

    pub may_reported : (m : Option MessageView) → may_on by.fits (stored_of j) m ≡ may_be_done by before m
    may_reported None = refl
    may_reported (Some (NewView call)) = cert_reported call.cert
    may_reported (Some (Ask call)) = cert_reported call.cert
    may_reported (Some (Order sealed)) = refl
    may_reported (Some (Propose proposed)) = valid_reported proposed.block
    may_reported (Some (Vote voted)) =
        ap (λ (s : Parameters). nat_lt voted.vote.replica s.n && (has_view j.store voted.vote.block voted.vote.view
        && by.fits voted.vote.replica (vote_spelling voted.vote.replica voted.vote.view voted.vote.block) voted.vote.seal))
        stands.setting
        ∙ ap (λ (t : Bool). nat_lt voted.vote.replica by.setting.n
        && (t && by.fits voted.vote.replica (vote_spelling voted.vote.replica voted.vote.view voted.vote.block) voted.vote.seal))
        (view_shows j.store before stands.ties.safe_tied.stores voted.vote.block voted.vote.view)
        ∙ ap (λ (t : Bool). nat_lt voted.vote.replica by.setting.n && t)
        (and_comm (is_stored_at (stored_in before) voted.vote.block voted.vote.view)
        (by.fits voted.vote.replica (vote_spelling voted.vote.replica voted.vote.view voted.vote.block) voted.vote.seal))
    may_reported (Some (Fetch block)) = refl
    may_reported (Some (Give block)) = valid_reported block

  block_alone : (b : Block) → not (clashes j.store (block_digest b) b) ≡ stands_alone before (Some (named b))
  block_alone b =
      same_from_decides {P = StandsAlone before (named b)} (not (clashes j.store (block_digest b) b)) (stands_alone before (Some (named b)))
      (alone_shows j.store before stands.ties.safe_tied.stores b)
      (restate (stands_alone before (Some (named b))) (alone_decides before (Some (named b))) (λ each. each (named b) refl)
      (λ alone c is. subst (StandsAlone before) (same_Some (named b) c is) alone))

  pub alone_reported : (done : Bool) (m : Option MessageView)
      → alone_on j.store (carried_if done m) ≡ stands_alone before (if done then block_named_in (shown_message m) else None)
  alone_reported false m = refl
  alone_reported true None = refl
  alone_reported true (Some (NewView call)) = refl
  alone_reported true (Some (Ask call)) = refl
  alone_reported true (Some (Order sealed)) = refl
  alone_reported true (Some (Propose proposed)) = block_alone proposed.block
  alone_reported true (Some (Vote voted)) = refl
  alone_reported true (Some (Fetch block)) = refl
  alone_reported true (Some (Give block)) = block_alone block

  -- ---- rule 5

  module _ (reach : (child ancestor : Digest) → is_stored j.store child ≡ true → Extends j.store child ancestor → extends j.store child ancestor ≡ true) where
    pub safe_reported : (b : Block) (p : Named) → StandsAlone before (named b) → at j.store b.cert.block ≡ Some p
        → Decides (is_safe j.store j.safety b)
        (ExtendsNamed (stored_in before) (named b) (lock_in by.setting before) ⊎ ((lock_in by.setting before).view < b.cert.view))
    safe_reported b p alone at_parent =
        restate (is_safe j.store j.safety b)
        (Decides-or (nat_lt (view_at j.store j.safety.lock) b.cert.view) (extends j.store b.cert.block j.safety.lock || is_at j.store j.safety.lock b)
        (Decides-ltb (view_at j.store j.safety.lock) b.cert.view) (
          safe_from j.store before stands.ties.safe_tied.stores j.safety b p (lock_in by.setting before) alone.other stands.ties.safe_tied.at_lock at_parent,
          safe_when j.store before stands.ties.safe_tied.stores reach j.safety b p (lock_in by.setting before) alone stands.ties.safe_tied.at_lock at_parent,
        ))
        (λ either. elim either [ inl above ↦ inr (subst (λ (v : ℕ). v < b.cert.view) lock_view above) | inr on ↦ inl on ])
        (λ either. elim either [ inl on ↦ inr on | inr above ↦ inl (subst (λ (v : ℕ). v < b.cert.view) (sym lock_view) above) ])
      where
        lock_view : view_at j.store j.safety.lock ≡ (lock_in by.setting before).view
        lock_view = at_view j.store j.safety.lock (lock_in by.setting before) stands.ties.safe_tied.at_lock
