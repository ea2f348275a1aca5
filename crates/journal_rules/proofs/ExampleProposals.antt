-- Journals of one replica to which blocks were proposed.
use Rattle.std.proofs.Common.{◌≡◌, ◌≢◌, ℕ, zero, suc, ◌<◌, ◌≤◌, List, [], ◌∷◌, ◌++◌, length, map, get_or, true, Some, refl, sym, ap, subst, ◌∙◌, inl, inr, arith}
use Rattle.std.specs.Prelude.{All}
use Rattle.std.specs.List.{AllPairs, filter_map}
use Rattle.std.specs.Result.{result_ok}
use Rattle.std.proofs.lemmas.List.Elements.{All-nil, All-cons, All-head, All-tail}
use Rattle.std.proofs.lemmas.List.Kept.{AllPairs-cons}
use Rattle.std.proofs.lemmas.Option.{none-some, same_Some}
use Rattle.seq_base.specs.declared.kinds.TheConstants.{ORDER, VOTE}
use Rattle.seq_base.specs.declared.block.Block.{Block}
use Rattle.seq_base.specs.declared.message.Message.TheVariants as messages
use Rattle.seq_base.specs.Blocks.{first_digest}
use Rattle.seq_base.specs.Spelling.{message_spelling, vote_spelling}
use Rattle.seq_base.specs.Writable.{IsWritableBlock}
use Rattle.block_store.specs.Store.{block_digest}
use Rattle.wire_view.specs.Messages.{view_of}
use Rattle.agreement_laws.specs.Journals.{Named, first_block, Ballot, ballot, Message as Plain, Entry as Shown}
use Rattle.agreement_laws.specs.JournalPrefixes.{Leads, LeadsTo, lock, parent_in, parent_of, stored, stored_by}
use Rattle.agreement_laws.specs.JournalPrefixes.{sealed_in as ballots_in}
use Rattle.agreement_laws.specs.Lawful.{IsStored}
use Rattle.agreement_laws.proofs.Digests.{false_other, true_same}
use Rattle.node_core.specs.declared.event.Event.TheVariants.{Deliver}
use Rattle.node_core.specs.declared.entry.Entry.{Entry}
use Rattle.node_core.specs.Delivered.{message_in}
use Rattle.journal_rules.specs.Examples.{BreaksAloneAfter}
use Rattle.journal_rules.specs.Proposals.{of_one, child, cert_of, grandchild, done, proposed, voted_for, called_with, locked_on_child, Collide, HaveOwnDigests}
use Rattle.journal_rules.specs.Rules.{KeepsAll, Takes, Rises, Votes, IsVoteFor, IsDrawn, IsLawful, IsValidIn, MayBeDone, StandsAlone, ballots_by, lock_in, stored_in, up_to}
use Rattle.journal_rules.specs.Sealed.{Mark, marks_in, sealed_in}
use Rattle.journal_rules.specs.Shown.{ballot_in, named, shown, shown_message}
use Rattle.journal_rules.proofs.Empty.{valid_over, valid_child, writable_over, writable_child, cert_writable, cert_good}
use Rattle.journal_rules.proofs.Ends.{each_none, each_more}
use Rattle.journal_rules.proofs.FirstBroken.{keep_all}
use Rattle.journal_rules.proofs.OneEntry.{NamesReplica0, ReadsSpellings, few_marks, itself, others}

-- ---- what is known of stored blocks

two_stored : (a b : Block) (prefix : List Entry) → stored_in prefix ≡ first_block ∷ named a ∷ [] → block_digest b ≢ first_digest
    → (block_digest a ≡ block_digest b → named a ≡ named b) → StandsAlone prefix (named b)
two_stored a b prefix is other one = record {
  one = subst (All (λ c. c.digest ≡ block_digest b → c ≡ named b)) (sym is)
      (All-cons (λ (c : Named). c.digest ≡ block_digest b → c ≡ named b) first_block (named a ∷ []) (λ same. absurd (other (sym same)))
      (All-cons (λ (c : Named). c.digest ≡ block_digest b → c ≡ named b) (named a) [] one (All-nil (λ (c : Named). c.digest ≡ block_digest b → c ≡ named b))));
  other = other;
}

first_alone : (b : Block) → block_digest b ≢ first_digest → StandsAlone [] (named b)
first_alone b other = record {
  one = All-cons (λ (c : Named). c.digest ≡ block_digest b → c ≡ named b) first_block [] (λ same. absurd (other (sym same)))
      (All-nil (λ (c : Named). c.digest ≡ block_digest b → c ≡ named b));
  other = other;
}

-- a child of the first block leads to it
leads_to_first : (blocks : List Named) (v : ℕ) → block_digest (child v) ≢ first_digest → LeadsTo (first_block ∷ blocks) (named (child v)) first_block
leads_to_first blocks v other = (1, (first_block, rw (false_other (block_digest (child v)) first_digest other) refl, refl))

-- ---- entries

abbrev once_in : List (List ℕ) → Type 0
once_in statements = AllPairs (λ a b. a ≢ b) (marks_in statements)

few_votes : (votes : List Ballot) → length votes ≤ 1 → AllPairs (λ a b. a.view < b.view) votes
few_votes votes few i j d less inside = absurd (omega (arith, few, less, inside))

abbrev drawn_if : List Entry → Entry → List ℕ → Type 0
drawn_if before e statement = get_or statement 0 0 ≡ ORDER → IsDrawn of_one before e statement

abbrev vote_of : Block → List ℕ
vote_of b = vote_spelling 0 b.view (block_digest b)

no_orders : (before : List Entry) (e : Entry) (b : Block) → All (drawn_if before e) (vote_of b ∷ [])
no_orders before e b = All-cons (drawn_if before e) (vote_of b) [] (λ is. absurd (omega (arith, is))) (All-nil (drawn_if before e))

own_vote : (b : Block) → All NamesReplica0 (vote_of b ∷ [])
own_vote b = All-cons NamesReplica0 (vote_of b) [] refl (All-nil NamesReplica0)

-- an entry without votes, after others without votes
no_votes : (before : List Entry) (e : Entry) → ballots_in (map shown (up_to before e)) ≡ [] → ballots_by e ≡ [] → Rises of_one before e × Votes of_one before e
no_votes before e none mine = (
  record {
    rise = subst (AllPairs (λ x y. x.view < y.view)) (sym none) (few_votes [] (omega arith));
    above_lock = subst (All (λ v. (lock_in of_one.setting before).view < v.view)) (sym mine)
        (All-nil (λ (v : Ballot). (lock_in of_one.setting before).view < v.view));
  },
  subst (All (IsVoteFor of_one before e)) (sym mine) (All-nil (IsVoteFor of_one before e)),
)

module _ (reads : ReadsSpellings) where
  delivered : (b : Block) → IsWritableBlock b → message_in (Deliver 0 (message_spelling (messages.Propose 0 b []))) ≡ Some (view_of (messages.Propose 0 b []))
  delivered b writable = ap result_ok (reads (messages.Propose 0 b []) (record { named = omega arith; sealed = omega arith }, writable))

  shown_as : (b : Block) → IsWritableBlock b → (sealed : List (List ℕ)) → shown (done (messages.Propose 0 b []) sealed)
      ≡ record { message = Plain.Propose (named b); is_done = true; sealed = filter_map ballot_in sealed }
  shown_as b writable sealed = ap (λ m. record { message = shown_message m; is_done = true; sealed = filter_map ballot_in sealed }) (delivered b writable)

  -- a valid block is accepted
  takes_block : (before : List Entry) (b : Block) (sealed : List (List ℕ)) → IsWritableBlock b → IsValidIn of_one before b → StandsAlone before (named b)
      → All NamesReplica0 sealed → once_in (sealed_in (up_to before (done (messages.Propose 0 b []) sealed)))
      → Takes of_one before (done (messages.Propose 0 b []) sealed)
  takes_block before b sealed writable valid alone own once = record {
    idle = λ not. absurd (cc);
    own = own;
    once = once;
    done = λ is. subst (MayBeDone of_one before) (sym (delivered b writable)) valid;
    alone = λ c is. subst (StandsAlone before) (same_Some (named b) c (sym (ap stored_by (shown_as b writable sealed)) ∙ is)) alone;
  }

  -- and voted for
  votes_for : (before : List Entry) (b : Block) → IsWritableBlock b → (v : ℕ) → b.view ≡ v → ballots_by (voted_for b) ≡ ballot v (block_digest b) ∷ []
      → LeadsTo (stored_in before) (named b) (lock_in of_one.setting before) → Votes of_one before (voted_for b)
  votes_for before b writable v view is leads =
      subst (All (IsVoteFor of_one before (voted_for b))) (sym is)
      (All-cons (IsVoteFor of_one before (voted_for b)) (ballot v (block_digest b)) [] (record {
        block = named b;
        delivered = ap (λ (s : Shown). s.message) (shown_as b writable (vote_of b ∷ []));
        digest = refl;
        view = sym view;
        rule = inl leads;
      }) (All-nil (IsVoteFor of_one before (voted_for b))))

  proposed_lawful : (a : Block) → IsWritableBlock a → IsValidIn of_one [] a → block_digest a ≢ first_digest → IsLawful of_one (proposed a ∷ [])
  proposed_lawful a writable valid other = each_more (KeepsAll of_one) [] (proposed a) (each_none (KeepsAll of_one))
      (keep_all of_one [] (proposed a) (record { first = refl; all = refl })
      (takes_block [] a [] writable valid (first_alone a other) (All-nil NamesReplica0) (few_marks [] (omega arith)))
      (All-nil (drawn_if [] (proposed a))) (no_votes [] (proposed a) refl refl).0 (no_votes [] (proposed a) refl refl).1)

  -- ---- the fourth rule

  module _ (own : HaveOwnDigests (child 2 ∷ child 1 ∷ [])) where
    later : block_digest (child 2) ≢ first_digest
    later = All-head (λ b. block_digest b ≢ first_digest) (child 2) (child 1 ∷ []) own.others

    earlier : block_digest (child 1) ≢ first_digest
    earlier = All-head (λ b. block_digest b ≢ first_digest) (child 1) [] (All-tail (λ b. block_digest b ≢ first_digest) (child 2) (child 1 ∷ []) own.others)

    differ : block_digest (child 2) ≢ block_digest (child 1)
    differ = own.differ 0 1 (child 1) (omega arith) (omega arith)

    shown_is : map shown (voted_for (child 2) ∷ [])
        ≡ record { message = Plain.Propose (named (child 2)); is_done = true; sealed = ballot 2 (block_digest (child 2)) ∷ [] } ∷ []
    shown_is = ap (λ (x : Shown). x ∷ []) (shown_as (child 2) (writable_child 2 (omega arith)) (vote_of (child 2) ∷ []))

    lock_is : lock_in of_one.setting (voted_for (child 2) ∷ []) ≡ first_block
    lock_is = ap (lock of_one.setting) shown_is

    voted_is : Rises of_one [] (voted_for (child 2))
    voted_is = record {
      rise = few_votes (ballot 2 (block_digest (child 2)) ∷ []) (omega arith);
      above_lock = All-cons (λ (v : Ballot). 0 < v.view) (ballot 2 (block_digest (child 2))) [] (omega arith) (All-nil (λ (v : Ballot). 0 < v.view));
    }

    voted_lawful : IsLawful of_one (voted_for (child 2) ∷ [])
    voted_lawful = each_more (KeepsAll of_one) [] (voted_for (child 2)) (each_none (KeepsAll of_one))
        (keep_all of_one [] (voted_for (child 2)) (record { first = refl; all = refl })
        (takes_block [] (child 2) (vote_of (child 2) ∷ []) (writable_child 2 (omega arith)) (valid_child [] 2 (omega arith))
        (first_alone (child 2) later) (own_vote (child 2))
        (few_marks (record { kind = VOTE; view = 2 } ∷ []) (omega arith)))
        (no_orders [] (voted_for (child 2)) (child 2)) voted_is
        (votes_for [] (child 2) (writable_child 2 (omega arith)) 2 refl refl (leads_to_first [] 2 later)))

    pub breaks_rises : BreaksAloneAfter of_one (voted_for (child 2) ∷ []) (voted_for (child 1)) 4
    breaks_rises = (
      voted_lawful,
      λ rises. (let less : 2 < 1 = rises.rise 0 1 (ballot 0 first_digest) (omega arith) (omega arith) in absurd (omega (arith, less))),
      others of_one (voted_for (child 2) ∷ []) (voted_for (child 1)) 4 (λ o. record { first = refl; all = refl })
          (λ o. takes_block (voted_for (child 2) ∷ []) (child 1) (vote_of (child 1) ∷ []) (writable_child 1 (omega arith))
          (valid_child (voted_for (child 2) ∷ []) 1 (omega arith))
          (two_stored (child 2) (child 1) (voted_for (child 2) ∷ []) (ap stored shown_is) earlier (λ same. absurd (differ same))) (own_vote (child 1))
          (AllPairs-cons (λ a b. a ≢ b) (record { kind = VOTE; view = 2 }) (record { kind = VOTE; view = 1 } ∷ [])
          (All-cons (λ m. record { kind = VOTE; view = 2 } ≢ m) (record { kind = VOTE; view = 1 }) []
          (λ same. (let two : 2 ≡ 1 = ap (λ (m : Mark). m.view) same in absurd (omega (arith, two))))
          (All-nil (λ m. record { kind = VOTE; view = 2 } ≢ m)))
          (few_marks (record { kind = VOTE; view = 1 } ∷ []) (omega arith))))
          (λ o. no_orders (voted_for (child 2) ∷ []) (voted_for (child 1)) (child 1)) (itself 4)
          (λ o. votes_for (voted_for (child 2) ∷ []) (child 1) (writable_child 1 (omega arith)) 1 refl refl
          (subst (LeadsTo (stored_in (voted_for (child 2) ∷ [])) (named (child 1))) (sym lock_is) (leads_to_first _ 1 earlier))),
    )

  -- ---- that a block stands alone

  module _ (a b : Block) (c : Collide a b) where
    a_shown : map shown (proposed a ∷ []) ≡ record { message = Plain.Propose (named a); is_done = true; sealed = [] } ∷ []
    a_shown = ap (λ (x : Shown). x ∷ []) (shown_as a c.one.0 [])

    pub breaks_alone : BreaksAloneAfter of_one (proposed a ∷ []) (proposed b) 2
    breaks_alone = (
      proposed_lawful a c.one.0 c.one.1 c.not_first,
      λ takes. (let alone : StandsAlone (proposed a ∷ []) (named b) = takes.alone (named b) (ap stored_by (shown_as b c.other.0 [])) in
          let one : All (λ n. n.digest ≡ block_digest b → n ≡ named b) (first_block ∷ named a ∷ []) =
          subst (All (λ n. n.digest ≡ block_digest b → n ≡ named b)) (ap stored a_shown) alone.one in
          let equal : named a ≡ named b = one 1 first_block (omega arith) c.same in
          absurd (c.differ (ap (λ (n : Named). record { view = n.view; cert = n.cert; orders = n.orders }) equal))),
      others of_one (proposed a ∷ []) (proposed b) 2 (λ o. record { first = refl; all = refl }) (itself 2)
          (λ o. All-nil (drawn_if (proposed a ∷ []) (proposed b)))
          (λ o. (no_votes (proposed a ∷ []) (proposed b) refl refl).0) (λ o. (no_votes (proposed a ∷ []) (proposed b) refl refl).1),
    )

  -- ---- the lock

  module _ (own : HaveOwnDigests (child 1 ∷ grandchild ∷ child 3 ∷ [])) where
    abbrev a : Block
    a = child 1

    abbrev b : Block
    b = grandchild

    abbrev c : Block
    c = child 3

    a_other : block_digest a ≢ first_digest
    a_other = own.others 0 a (omega arith)

    b_other : block_digest b ≢ first_digest
    b_other = own.others 1 a (omega arith)

    c_other : block_digest c ≢ first_digest
    c_other = own.others 2 a (omega arith)

    a_is_not_b : block_digest a ≢ block_digest b
    a_is_not_b = own.differ 0 1 a (omega arith) (omega arith)

    a_is_not_c : block_digest a ≢ block_digest c
    a_is_not_c = own.differ 0 2 a (omega arith) (omega arith)

    b_is_not_c : block_digest b ≢ block_digest c
    b_is_not_c = own.differ 1 2 a (omega arith) (omega arith)

    abbrev proposing : Block → Shown
    proposing x = record { message = Plain.Propose (named x); is_done = true; sealed = [] }

    abbrev calling : Shown
    calling = record { message = Plain.NewView (cert_of b); is_done = true; sealed = [] }

    a_writable : IsWritableBlock a
    a_writable = writable_child 1 (omega arith)

    b_writable : IsWritableBlock b
    b_writable = writable_over (cert_of a) 2 (cert_writable a (omega arith)) (omega arith)

    c_writable : IsWritableBlock c
    c_writable = writable_child 3 (omega arith)

    called : message_in (called_with b).event ≡ Some (view_of (messages.NewView 0 3 (cert_of b) []))
    called = ap result_ok
        (reads (messages.NewView 0 3 (cert_of b) []) (record { named = omega arith; sealed = omega arith }, omega arith, cert_writable b (omega arith)))

    called_as : shown (called_with b) ≡ calling
    called_as = ap (λ m. record { message = shown_message m; is_done = true; sealed = [] }) called

    -- ---- the journals, as they are shown

    one : map shown (proposed a ∷ []) ≡ proposing a ∷ []
    one = ap (λ (x : Shown). x ∷ []) (shown_as a a_writable [])

    two : map shown (proposed a ∷ proposed b ∷ []) ≡ proposing a ∷ proposing b ∷ []
    two = ap (λ (x : Shown). x ∷ shown (proposed b) ∷ []) (shown_as a a_writable []) ∙ ap (λ (x : Shown). proposing a ∷ x ∷ []) (shown_as b b_writable [])

    three : map shown locked_on_child ≡ proposing a ∷ proposing b ∷ calling ∷ []
    three = ap (λ (xs : List Shown). xs ++ shown (called_with b) ∷ []) two ∙ ap (λ (x : Shown). proposing a ∷ proposing b ∷ x ∷ []) called_as

    abbrev blocks : List Named
    blocks = first_block ∷ named a ∷ named b ∷ []

    a_parent : parent_of blocks (block_digest a) ≡ Some first_block
    a_parent = rw (
      false_other first_digest (block_digest a) (λ is. a_other (sym is)),
      true_same (block_digest a) (block_digest a) refl,
      false_other (block_digest a) first_digest a_other,
    )
        refl

    b_parent : parent_of blocks (block_digest b) ≡ Some (named a)
    b_parent = rw (
      false_other first_digest (block_digest b) (λ is. b_other (sym is)),
      false_other (block_digest a) (block_digest b) a_is_not_b,
      true_same (block_digest b) (block_digest b) refl,
      false_other (block_digest b) first_digest b_other,
      false_other first_digest (block_digest a) (λ is. a_other (sym is)),
      true_same (block_digest a) (block_digest a) refl,
    ) refl

    locked_is : lock_in of_one.setting locked_on_child ≡ named a
    locked_is = ap (lock of_one.setting) three ∙ rw (a_parent, b_parent) refl

    -- ---- it is lawful

    b_valid : IsValidIn of_one (proposed a ∷ []) b
    b_valid = valid_over (proposed a ∷ []) (cert_of a) 2 (cert_good a (omega arith))
        (subst (λ (prefix : List Shown). IsStored prefix (block_digest a) 1) (sym one) (1, named a, omega arith, refl, (refl, refl))) (omega arith)

    b_keeps : KeepsAll of_one (proposed a ∷ []) (proposed b)
    b_keeps = keep_all of_one (proposed a ∷ []) (proposed b) (record { first = refl; all = refl })
        (takes_block (proposed a ∷ []) b [] b_writable b_valid (two_stored a b (proposed a ∷ []) (ap stored one) b_other (λ same. absurd (a_is_not_b same)))
        (All-nil NamesReplica0) (few_marks [] (omega arith)))
        (All-nil (drawn_if (proposed a ∷ []) (proposed b))) (no_votes (proposed a ∷ []) (proposed b) refl refl).0
        (no_votes (proposed a ∷ []) (proposed b) refl refl).1

    abbrev before_call : List Entry
    before_call = proposed a ∷ proposed b ∷ []

    called_taken : Takes of_one before_call (called_with b)
    called_taken = record {
      idle = λ not. absurd (cc);
      own = All-nil NamesReplica0;
      once = few_marks [] (omega arith);
      done = λ is. subst (MayBeDone of_one before_call) (sym called) (
        cert_good b (omega arith),
        subst (λ (prefix : List Shown). IsStored prefix (block_digest b) 2) (sym two) (2, named b, omega arith, refl, (refl, refl)),
      );
      alone = λ n is. absurd (none-some n (sym (ap stored_by called_as) ∙ is));
    }

    locked_lawful : IsLawful of_one locked_on_child
    locked_lawful = each_more (KeepsAll of_one) before_call (called_with b)
        (each_more (KeepsAll of_one) (proposed a ∷ []) (proposed b) (proposed_lawful a a_writable (valid_child [] 1 (omega arith)) a_other) b_keeps)
        (keep_all of_one before_call (called_with b) (record { first = refl; all = refl }) called_taken
        (All-nil (drawn_if before_call (called_with b))) (no_votes before_call (called_with b) refl refl).0 (no_votes before_call (called_with b) refl refl).1)

    -- ---- the vote

    c_alone : StandsAlone locked_on_child (named c)
    c_alone = record {
      one = subst (All (λ n. n.digest ≡ block_digest c → n ≡ named c)) (sym (ap stored three))
          (All-cons (λ (n : Named). n.digest ≡ block_digest c → n ≡ named c) first_block (named a ∷ named b ∷ []) (λ same. absurd (c_other (sym same)))
          (All-cons (λ (n : Named). n.digest ≡ block_digest c → n ≡ named c) (named a) (named b ∷ []) (λ same. absurd (a_is_not_c same))
          (All-cons (λ (n : Named). n.digest ≡ block_digest c → n ≡ named c) (named b) [] (λ same. absurd (b_is_not_c same))
          (All-nil (λ (n : Named). n.digest ≡ block_digest c → n ≡ named c)))));
      other = c_other;
    }

    c_rises : Rises of_one locked_on_child (voted_for c)
    c_rises = record {
      rise = few_votes (ballot 3 (block_digest c) ∷ []) (omega arith);
      above_lock = subst (λ (n : Named). All (λ v. n.view < v.view) (ballot 3 (block_digest c) ∷ [])) (sym locked_is)
          (All-cons (λ (v : Ballot). 1 < v.view) (ballot 3 (block_digest c)) [] (omega arith) (All-nil (λ (v : Ballot). 1 < v.view)));
    }

    c_parent : (others : List Named) → parent_in (first_block ∷ others) (named c) ≡ Some first_block
    c_parent others = rw (false_other (block_digest c) first_digest c_other) refl

    not_led : (others : List Named) (steps : ℕ) → Leads (first_block ∷ others) steps (named c) (named a) → ⊥
    not_led others zero is = a_is_not_c (ap (λ (n : Named). n.digest) (sym is))
    not_led others (suc zero) (p, parent, is) = a_other (ap (λ (n : Named). n.digest) (sym (same_Some first_block p (sym (c_parent others) ∙ parent) ∙ is)))
    not_led others (suc (suc n)) (p, parent, (q, next, leads)) =
        let first : first_block ≡ p = same_Some first_block p (sym (c_parent others) ∙ parent) in
        none-some q (ap (parent_in (first_block ∷ others)) first ∙ next)

    breaks_rule : Votes of_one locked_on_child (voted_for c) → ⊥
    breaks_rule votes =
        let v : IsVoteFor of_one locked_on_child (voted_for c) (ballot 3 (block_digest c)) =
        All-head (IsVoteFor of_one locked_on_child (voted_for c)) (ballot 3 (block_digest c)) [] votes in
        let is : Plain.Propose v.block ≡ Plain.Propose (named c) = sym v.delivered ∙ ap (λ (s : Shown). s.message) (shown_as c c_writable (vote_of c ∷ [])) in
        let same : v.block ≡ named c = cc in
        elim v.rule [
          | inl leads ↦
              let led : LeadsTo (stored_in locked_on_child) (named c) (named a) =
              subst (LeadsTo (stored_in locked_on_child) (named c)) locked_is
              (subst (λ (n : Named). LeadsTo (stored_in locked_on_child) n (lock_in of_one.setting locked_on_child)) same leads) in
              not_led _ led.0 led.1
          | inr above ↦
              let cert_view : v.block.cert.view ≡ 0 = ap (λ (n : Named). n.cert.view) same in
              let lock_view : (lock_in of_one.setting locked_on_child).view ≡ 1 = ap (λ (n : Named). n.view) locked_is in
              absurd (omega (arith, above, cert_view, lock_view))
        ]

    pub breaks_lock : BreaksAloneAfter of_one locked_on_child (voted_for c) 5
    breaks_lock = (
      locked_lawful,
      breaks_rule,
      others of_one locked_on_child (voted_for c) 5 (λ o. record { first = refl; all = refl })
          (λ o. takes_block locked_on_child c (vote_of c ∷ []) c_writable (valid_child locked_on_child 3 (omega arith)) c_alone (own_vote c)
          (few_marks (record { kind = VOTE; view = 3 } ∷ []) (omega arith)))
          (λ o. no_orders locked_on_child (voted_for c) c) (λ o. c_rises) (itself 5),
    )
