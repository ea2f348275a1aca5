-- Rules 3 and 5, on the state of one pass.
use Rattle.std.proofs.Common.{◌≡◌, ℕ, List, [], map, take, get_or, Bool, true, false, cond, ◌&&◌, ◌||◌, ◌==◌, Option, Some, None, is_some, refl, sym, ap, subst, ◌∙◌, inl, inr}
use Rattle.std.proofs.lemmas.Bool.Decides.{same_from_decides}
use Rattle.std.specs.Prelude.{not}
use Rattle.std.specs.List.{list_all, filter_map}
use Rattle.std.specs.Option.{option_map}
use Rattle.std.specs.Cmp.Lexicographic.{pointwise}
use Rattle.std.proofs.lemmas.Bool.{cases_Bool}
use Rattle.seq_base.specs.declared.kinds.TheConstants.{ORDER}
use Rattle.seq_base.specs.declared.block.Block.{Block}
use Rattle.seq_base.specs.declared.digest.Digest.{Digest}
use Rattle.seq_base.specs.Blocks.{first_digest, digest_eq}
use Rattle.seq_base.specs.Spelling.{order_spelling}
use Rattle.block_store.specs.Chains.{extends, Extends}
use Rattle.block_store.specs.Store.{block_digest, block_at, is_stored}
use Rattle.chain_state.specs.Standings.{Standings, order_drawn}
use Rattle.chain_store.specs.Chains.{chain_state_of}
use Rattle.hotstuff_core.specs.Rules.{is_safe}
use Rattle.wire_view.specs.declared.messages.MessageView.{MessageView}
use Rattle.wire_view.specs.declared.messages.MessageView.TheVariants.{NewView, Ask, Order, Propose, Vote, Fetch, Give}
use Rattle.agreement_laws.specs.Journals.{Named, first_block, Ballot, Message}
use Rattle.agreement_laws.specs.JournalPrefixes.{block_at as shown_at}
use Rattle.agreement_laws.specs.Lawful.{IsStored}
use Rattle.agreement_laws.specs.Seen.{IsKeptPrefix}
use Rattle.agreement_laws.proofs.Lists.{in_any}
use Rattle.node_core.specs.declared.entry.Entry.{Entry}
use Rattle.node_core.specs.Delivered.{message_in}
use Rattle.journal_rules.specs.Rules.{Scale, Takes, StandsAlone, up_to, stored_in, lock_in, ballots_by, replica_named, view_named, parent_named, order_named}
use Rattle.journal_rules.specs.Shown.{is_done, shown, shown_message, named, ballot_in}
use Rattle.journal_rules.specs.Tests.{draws, is_drawn, votes, is_vote_for, is_safe as is_safe_by}
use Rattle.journal_rules.specs.Stores.{at, IsTied, StoreKept}
use Rattle.journal_rules.proofs.ChainTies.{StandsForOneMore}
use Rattle.journal_rules.proofs.VoteTest.{alone_is, valid_is, safe_decides}
use Rattle.audit_core.specs.Bringing.{carried_by, carried_if, carried_in}
use Rattle.audit_core.specs.Audited.{Audited}
use Rattle.audit_core.specs.Judging.{drawn_on, are_drawn, votes_on}
use Rattle.audit_core.specs.Stands.{Stands}
use Rattle.audit_core.specs.Voting.{vote_on}
use Rattle.audit_core.proofs.EntryTests.{safe_reported}
use Rattle.audit_core.proofs.StoreRules.{state_shows}
use Rattle.run_record.proofs.Dues.{same_all}

and_on : (h k a b : Bool) → h ≡ k → (h ≡ true → a ≡ b) → (h && a) ≡ (k && b)
and_on true k a b same on = on refl ∙ ap (λ (t : Bool). t && b) same
and_on false k a b same on = ap (λ (t : Bool). t && b) same

stored_is : (store : List Block) (d : Digest) → is_stored store d ≡ is_some (at store d)
stored_is store d = by (digest_eq d first_digest) (block_at store d)
  where
    by : (t : Bool) (o : Option Block) → (t || is_some o) ≡ is_some (cond t (Some first_block) (option_map named o))
    by true o = refl
    by false None = refl
    by false (Some b) = refl

-- ---- rule 3

module _ (one_more : StandsForOneMore) (by : Scale) (before : List Entry) (e : Entry) (store : List Block)
    (tied : IsTied store (stored_in (up_to before e))) (led : StoreKept store) where
  drawn_reported : (statement : List ℕ)
      → drawn_on (record { setting = by.setting; blocks = store }) (take e.turned.kept by.arrivals) statement ≡ is_drawn by before e statement
  drawn_reported statement =
      and_on (is_stored store (parent_named statement)) (is_some (shown_at (stored_in (up_to before e)) (parent_named statement))) _ _
      (stored_is store (parent_named statement) ∙ ap is_some (sym (tied.same (parent_named statement))))
      (λ is. on (at store (parent_named statement)) refl (sym (stored_is store (parent_named statement)) ∙ is))
    where
      on : (o : Option Named) → at store (parent_named statement) ≡ o → is_some (at store (parent_named statement)) ≡ true
          → pointwise ◌==◌ statement
          (order_spelling (order_drawn (replica_named statement) (view_named statement) (parent_named statement) (take e.turned.kept by.arrivals)
          (chain_state_of (record { setting = by.setting; blocks = store }) (parent_named statement))))
          ≡ pointwise ◌==◌ statement (order_spelling (order_named by before e statement))
      on None none is = absurd (let never : false ≡ true = sym (ap is_some none) ∙ is in cc)
      on (Some n) found is =
          ap (λ (c : Standings). pointwise ◌==◌ statement
          (order_spelling (order_drawn (replica_named statement) (view_named statement) (parent_named statement) (take e.turned.kept by.arrivals) c)))
          (state_shows store (up_to before e) tied one_more by.setting led (parent_named statement) n found)

  pub draws_reported : are_drawn (record { setting = by.setting; blocks = store }) (take e.turned.kept by.arrivals) e.turned.sealed ≡ draws by before e
  draws_reported = same_all (λ statement. not (get_or statement 0 0 == ORDER)
      || drawn_on (record { setting = by.setting; blocks = store }) (take e.turned.kept by.arrivals) statement)
      (λ statement. not (get_or statement 0 0 == ORDER) || is_drawn by before e statement)
      (λ statement. ap (λ (t : Bool). not (get_or statement 0 0 == ORDER) || t) (drawn_reported statement)) e.turned.sealed

-- what a prefix stored is found in the store, with its view
pub stored_with : (store : List Block) (before : List Entry) → IsTied store (stored_in before) → (d : Digest) (v : ℕ)
    → IsStored (map shown before) d v → (n : Named) × (at store d ≡ Some n) × (n.view ≡ v)
stored_with store before tied d v is =
    (is.1, subst (λ (c : Digest). at store c ≡ Some is.1) is.4.0 (tied.listed is.1 (in_any (λ b. (b.digest ≡ d) × (b.view ≡ v)) (stored_in before) is)), is.4.1)

stored_there : (store : List Block) (before : List Entry) → IsTied store (stored_in before) → (d : Digest) (v : ℕ)
    → IsStored (map shown before) d v → (n : Named) × (at store d ≡ Some n)
stored_there store before tied d v is = (let p = stored_with store before tied d v is in (p.0, p.1))

-- ---- rule 5

module _ (by : Scale) (before : List Entry) (j : Audited) (stands : Stands by before j) (e : Entry)
    (kept : IsKeptPrefix by.setting (map shown before)) (takes : Takes by before e)
    (reach : (child ancestor : Digest) → is_stored j.store child ≡ true → Extends j.store child ancestor → extends j.store child ancestor ≡ true) where
  pub votes_reported : votes_on j e ≡ votes by before e
  votes_reported = elim (cases_Bool (is_done e.turned.reason)) [
    | inl done ↦ same_all (vote_on j (carried_in e)) (is_vote_for (stored_in before) (lock_in by.setting before) (shown e).message)
        (subst (λ (t : Bool). (v : Ballot) → vote_on j (carried_if t (message_in e.event)) v
        ≡ is_vote_for (stored_in before) (lock_in by.setting before) (shown_message (message_in e.event)) v) (sym done)
        (by_message (message_in e.event) refl done)) (ballots_by e)
    | inr idle ↦
        let none : ballots_by e ≡ [] = ap (filter_map ballot_in) (takes.idle idle).1 in
        subst (λ (vs : List Ballot). list_all (vote_on j (carried_in e)) vs
        ≡ list_all (is_vote_for (stored_in before) (lock_in by.setting before) (shown e).message) vs) (sym none) refl
  ]
    where
      by_message : (m : Option MessageView) → message_in e.event ≡ m → is_done e.turned.reason ≡ true → (v : Ballot)
          → vote_on j (carried_by m) v ≡ is_vote_for (stored_in before) (lock_in by.setting before) (shown_message m) v
      by_message None is done v = refl
      by_message (Some (NewView call)) is done v = refl
      by_message (Some (Ask call)) is done v = refl
      by_message (Some (Order sealed)) is done v = refl
      by_message (Some (Propose proposed)) is done v =
          let b : Block = proposed.block in
          let shows : (shown e).message ≡ Message.Propose (named b) = ap shown_message is in
          let alone : StandsAlone before (named b) = alone_is by before kept e takes (named b) done shows in
          let valid = valid_is by before kept e takes (named b) done shows in
          let safe = stands.ties.safe_tied in
          let p = stored_there j.store before safe.stores b.cert.block b.cert.view valid.parent in
          ap (λ (t : Bool). digest_eq v.block (block_digest b) && ((v.view == b.view) && t))
          (same_from_decides (is_safe j.store j.safety b) (is_safe_by (stored_in before) (named b) (lock_in by.setting before))
          (safe_reported by before j stands e reach b p.0 alone p.1)
          (safe_decides by before kept (named b) valid alone))
      by_message (Some (Vote voted)) is done v = refl
      by_message (Some (Fetch block)) is done v = refl
      by_message (Some (Give block)) is done v = refl
