-- The history of a sound record satisfies the facts.
use Rattle.std.proofs.Common.{◌≡◌, ℕ, ◌<◌, ◌≤◌, List, [], ◌∷◌, ◌++◌, length, leb, true, Some, refl, sym, ap, subst, ◌∙◌, inl, inr, arith}
use Rattle.std.specs.Prelude.{◌≢◌, Contains}
use Rattle.std.specs.List.{AllPairs}
use Rattle.std.proofs.lemmas.Bool.{cases_Bool, leb-true}
use Rattle.std.proofs.lemmas.Option.{none-some, same_Some, cond_some}
use Rattle.std.proofs.lemmas.List.{length-map}
use Rattle.std.proofs.lemmas.List.Elements.{Contains-append_left, All-contains}
use Rattle.std.proofs.lemmas.List.Kept.{AllPairs-from_increasing}
use Rattle.seq_base.specs.Setting.{Parameters, quorum_of}
use Rattle.hotstuff_core.specs.History.{Vote, History, IsAncestor, HasVoted, IsCertified, IsFirstOrCertified}
use Rattle.hotstuff_core.specs.Facts as Facts
use Rattle.seq_base.specs.declared.digest.Digest.{Digest}
use Rattle.seq_base.specs.Blocks.{first_digest}
use Rattle.seq_base.specs.declared.block.Cert.{Cert}
use Rattle.seq_base.specs.declared.block.CertVote.{CertVote}
use Rattle.agreement_laws.specs.Journals.{Named, voters_of, Message, Ballot, ballot, Entry}
use Rattle.agreement_laws.specs.JournalPrefixes.{block_of, stored, block_at, parent_in, voters, certified_by, taken, lock, sealed_in}
use Rattle.agreement_laws.specs.Lawful.{IsGood, IsValidBlock, MayBeDone, IsLawfulVote}
use Rattle.agreement_laws.specs.Records.{Record, IsJournalPrefix, IsHonest, Carries, IsSoundRecord, known}
use Rattle.agreement_laws.specs.Histories.{view_at, parent_at, history}
use Rattle.agreement_laws.proofs.Lists.{at_split, in_any, all_from, split_at, when_some}
use Rattle.agreement_laws.proofs.Blocks.{at_digest, parent_parts, parent_from, parent_within, parent_inside}
use Rattle.agreement_laws.proofs.Prefixes.{stored_later, voters_distinct, voter_source, vote_is, taking, proposed_taken, lock_stored, lock_above}
use Rattle.agreement_laws.proofs.Votes.{has_voted, votes_rise, Sealing, cast, each_vote, each_two_votes}
use Rattle.agreement_laws.proofs.StoredPrefixes.{parent_stored, kept_prefix}
use Rattle.agreement_laws.proofs.Known.{one_known, in_prefix, delivered_known, stored_known, at_known, view_known, parent_known, parent_reported, ancestor_from}

module _ (s : Parameters) (x : Record) (sound : IsSoundRecord s x) where
  abbrev blocks : List Named
  blocks = known s x

  abbrev h : History Digest
  h = history s x

  -- Certificates.
  voted : (view : ℕ) (block : Digest) (r : ℕ) → (IsHonest s x r → Contains (sealed_in (x.journal r)) (ballot view block)) → r < s.n → HasVoted h block r
  voted view block r sealed below = elim (cases_Bool (x.faulty r)) [
    | inl is_faulty ↦ inl is_faulty
    | inr honest ↦ inr (has_voted s (x.journal r) view block (sealed (record { below = below; honest = honest })))
  ]

  certified_from : (view : ℕ) (block : Digest) (rs : List ℕ) → AllPairs (λ a b. a ≢ b) rs → ((r : ℕ) → Contains rs r → r < s.n) → quorum_of s ≤ length rs
      → ((r : ℕ) → IsHonest s x r → Contains rs r → Contains (sealed_in (x.journal r)) (ballot view block)) → IsCertified s h block
  certified_from view block rs distinct below enough sealed = record {
    voters = rs;
    quorum = record { replicas = record { distinct = distinct; below = all_from (λ r. r < s.n) rs below }; enough = enough };
    voted = all_from (HasVoted h block) rs (λ r inside. voted view block r (λ honest. sealed r honest inside) (below r inside));
  }

  good_certified : (c : Cert) → IsGood s c → ((r : ℕ) → IsHonest s x r → Contains (voters_of c) r → Contains (sealed_in (x.journal r)) (ballot c.view c.block))
      → IsFirstOrCertified s h c.block
  good_certified c (inl first_one) sealed = inl (ap (λ (z : Cert). z.block) first_one)
  good_certified c (inr votes) sealed =
      inr (certified_from c.view c.block (voters_of c)
      (λ i j d less inside same. let rises = AllPairs-from_increasing (voters_of c) votes.ascending i j d less inside in (omega (arith, rises, same)))
      (λ r (k, inside, at). subst (λ (q : ℕ). q < s.n) at (votes.below k r inside))
      (omega (arith, votes.enough, length-map c.votes (λ (v : CertVote). v.replica))) sealed)

  -- an entry with reason Done
  may_be_done : (r : ℕ) → IsHonest s x r → (e : Entry) → Contains (x.journal r) e → e.is_done ≡ true → (before : List Entry) × MayBeDone s before e.message
  may_be_done r honest e inside done = let at = split_at (x.journal r) e inside in (at.before, (sound.lawful r honest).done at.before e at.after at.is done)

  module _ (i : ℕ) (honest_i : IsHonest s x i) where
    voter_entry : (view : ℕ) (block : Digest) (prefix : List Entry) → ((e : Entry) → Contains prefix e → Contains (x.journal i) e) → (r : ℕ)
        → Contains (voters view block prefix) r
        → (e : Entry) × Contains (x.journal i) e × (e.is_done ≡ true) × (e.message ≡ Message.Vote r view block)
    voter_entry view block prefix within r inside =
        let from = voter_source view block prefix r inside in
        let gives = when_some from.item.is_done _ r from.gives in
        (from.item, within from.item from.inside, gives.0, vote_is view block from.item.message r gives.1)

    by_message : (prefix : List Entry) → ((e : Entry) → Contains prefix e → Contains (x.journal i) e) → (before : List Entry) (m : Message) (c : Digest)
        → MayBeDone s before m → ((r : ℕ) (v : Ballot) → IsHonest s x r → Carries m r v → Contains (sealed_in (x.journal r)) v)
        → certified_by s prefix m ≡ Some c → IsFirstOrCertified s h c
    by_message prefix within before (Message.NewView d) c may sealed is =
        subst (IsFirstOrCertified s h) (same_Some d.block c is)
        (good_certified d may.0 (λ r honest inside. sealed r (ballot d.view d.block) honest (inside, refl)))
    by_message prefix within before (Message.Ask d) c may sealed is =
        subst (IsFirstOrCertified s h) (same_Some d.block c is)
        (good_certified d may.0 (λ r honest inside. sealed r (ballot d.view d.block) honest (inside, refl)))
    by_message prefix within before (Message.Propose b) c may sealed is =
        subst (IsFirstOrCertified s h) (same_Some b.cert.block c is)
        (good_certified b.cert may.good (λ r honest inside. sealed r (ballot b.cert.view b.cert.block) honest (inside, refl)))
    by_message prefix within before (Message.Give b) c may sealed is =
        subst (IsFirstOrCertified s h) (same_Some b.cert.block c is)
        (good_certified b.cert may.good (λ r honest inside. sealed r (ballot b.cert.view b.cert.block) honest (inside, refl)))
    by_message prefix within before (Message.Vote q view block) c may sealed is =
        let rs = voters view block prefix in
        let parts = cond_some (leb (quorum_of s) (length rs)) block c is in
        subst (IsFirstOrCertified s h) parts.1
        (inr (certified_from view block rs (voters_distinct view block prefix)
        (λ r inside.
        let e = voter_entry view block prefix within r inside in
        let done = may_be_done i honest_i e.0 e.1 e.2 in
        (subst (MayBeDone s done.0) e.3 done.1).0)
        (leb-true (quorum_of s) (length rs) parts.0)
        (λ r honest inside.
        let e = voter_entry view block prefix within r inside in
        sound.unforged i e.0 r (ballot view block) honest_i e.1 e.2 honest (subst (λ (m : Message). Carries m r (ballot view block)) (sym e.3) (refl, refl)))))
    by_message prefix within before Message.Other c may sealed is = absurd (none-some c is)

  -- what an accepted certificate names
  pub taken_certified : (prefix : List Entry) → IsJournalPrefix s x prefix → (c : Digest) → Contains (taken s prefix) c → IsFirstOrCertified s h c
  taken_certified prefix t c inside =
      let k = taking s prefix c inside in
      let within : (e : Entry) → Contains k.prefix e → Contains (x.journal t.replica) e =
      λ e there. in_prefix s x sound.uncollided prefix t e
      (subst (λ (es : List Entry). Contains es e) (sym k.is) (Contains-append_left k.prefix k.after e there)) in
      let gives = when_some k.entry.is_done (certified_by s k.prefix k.entry.message) c k.takes in
      let done = may_be_done t.replica t.honest k.entry (within k.entry k.inside) gives.0 in
      by_message t.replica t.honest k.prefix within done.0 k.entry.message c done.1
      (λ r v honest carries. sound.unforged t.replica k.entry r v t.honest (within k.entry k.inside) gives.0 honest carries) gives.1

  -- Parents.
  pub record Parent (prefix : List Entry) (b : Named) : Type 0 where
    pub block : Named
    pub is_stored : Contains (stored prefix) block
    pub is_known : Contains blocks block
    pub parent : parent_in blocks b ≡ Some block
    pub digest : block.digest ≡ b.cert.block
    pub view : block.view ≡ b.cert.view

  parent_of_valid : (prefix : List Entry) → IsJournalPrefix s x prefix → (b : Named) → b.digest ≢ first_digest → IsValidBlock s prefix b → Parent prefix b
  parent_of_valid prefix t b some valid =
      let p = valid.parent.1 in
      let there = in_any (λ a. (a.digest ≡ b.cert.block) × (a.view ≡ b.cert.view)) (stored prefix) valid.parent in
      let same = valid.parent.4.0 in
      let among = stored_known s x sound.uncollided prefix t p there in
      record {
        block = p;
        is_stored = there;
        is_known = among;
        parent = parent_from blocks b p some (subst (λ (d : Digest). block_at blocks d ≡ Some p) same (at_known s x sound.uncollided p among));
        digest = same;
        view = valid.parent.4.1;
      }

  at_stored : (prefix : List Entry) → IsJournalPrefix s x prefix → (b : Named) → Contains (stored prefix) b → block_at (stored prefix) b.digest ≡ Some b
  at_stored prefix t b inside =
      at_digest (stored prefix) b inside (λ c there same. one_known s x sound.uncollided c b
      (stored_known s x sound.uncollided prefix t c there) (stored_known s x sound.uncollided prefix t b inside) same)

  -- Votes.
  module _ (r : ℕ) (honest : IsHonest s x r) where
    lawful_vote : (t : Sealing (x.journal r)) → IsLawfulVote s t.before t.entry t.ballot
    lawful_vote t = All-contains (IsLawfulVote s t.before t.entry) t.entry.sealed t.ballot ((sound.lawful r honest).votes t.before t.entry t.after t.is) t.seals

    -- two votes of one entry name the same block
    same_view : (before : List Entry) (e : Entry) (after : List Entry) → x.journal r ≡ before ++ e ∷ after → (v w : Ballot)
        → Contains e.sealed v → Contains e.sealed w → v.view ≡ w.view
    same_view before e after is v w one other =
        let a = lawful_vote (record { before = before; entry = e; after = after; is = is; ballot = v; seals = one }) in
        let b = lawful_vote (record { before = before; entry = e; after = after; is = is; ballot = w; seals = other }) in
        let same : Some a.block ≡ Some b.block = ap block_of (sym a.delivered ∙ b.delivered) in
        a.own_view ∙ ap (λ (c : Named). c.view) (same_Some a.block b.block same) ∙ sym b.own_view

    prefix_of : (t : Sealing (x.journal r)) → IsJournalPrefix s x t.before
    prefix_of t = record { replica = r; honest = honest; rest = t.entry ∷ t.after; is = t.is }

    voted_known : (t : Sealing (x.journal r)) → Contains blocks (lawful_vote t).block × ((lawful_vote t).block.digest ≢ first_digest)
    voted_known t =
        delivered_known s x sound.uncollided r t.entry (lawful_vote t).block honest
        (subst (λ (es : List Entry). Contains es t.entry) (sym t.is) (at_split t.before t.entry t.after))
        (ap block_of (lawful_vote t).delivered)

    lock_known : (t : Sealing (x.journal r)) → Contains blocks (lock s t.before)
    lock_known t = stored_known s x sound.uncollided t.before (prefix_of t) (lock s t.before) (lock_stored s t.before)

    lock_view : (t : Sealing (x.journal r)) → view_at blocks (lock s t.before).digest ≡ (lock s t.before).view
    lock_view t = view_known s x sound.uncollided (lock s t.before) (lock_known t)

    parent_voted : (t : Sealing (x.journal r)) → Parent t.before (lawful_vote t).block
    parent_voted t = parent_of_valid t.before (prefix_of t) (lawful_vote t).block (voted_known t).1 (lawful_vote t).valid

    own_view : (t : Sealing (x.journal r)) → view_at blocks t.ballot.block ≡ t.ballot.view
    own_view t =
        let v = lawful_vote t in
        ap (view_at blocks) v.digest ∙ view_known s x sound.uncollided v.block (voted_known t).0 ∙ sym v.own_view

    above_lock : (t : Sealing (x.journal r)) → view_at blocks (lock s t.before).digest < t.ballot.view
    above_lock t = let above = (lawful_vote t).above_lock in omega (arith, above, lock_view t)

    parent_is : (t : Sealing (x.journal r)) → parent_at blocks t.ballot.block ≡ Some (parent_voted t).block.digest
    parent_is t =
        let v = lawful_vote t in
        ap (parent_at blocks) v.digest ∙ parent_known s x sound.uncollided v.block (parent_voted t).block (voted_known t).0 (parent_voted t).parent

    parent_view : (t : Sealing (x.journal r)) → view_at blocks (parent_voted t).block.digest ≡ (lawful_vote t).block.cert.view
    parent_view t = view_known s x sound.uncollided (parent_voted t).block (parent_voted t).is_known ∙ (parent_voted t).view

    same_parent : (t : Sealing (x.journal r)) → (p : Digest) → parent_at blocks t.ballot.block ≡ Some p → p ≡ (parent_voted t).block.digest
    same_parent t p is = same_Some p (parent_voted t).block.digest (sym is ∙ parent_is t)

    by_rule : (t : Sealing (x.journal r)) → Facts.MeetsRule h (cast s (x.journal r) t)
    by_rule t = elim (lawful_vote t).rule [
      | inl extends ↦
          let v = lawful_vote t in
          let path = ancestor_from s x sound.uncollided t.before (prefix_of t) extends.0 v.block (lock s t.before) (voted_known t).0 extends.1 in
          inl (extends.0, subst (λ (d : Digest). IsAncestor h extends.0 d (lock s t.before).digest) (sym v.digest) path)
      | inr greater ↦ inr ((parent_voted t).block.digest, parent_is t, (omega (arith, greater, lock_view t, parent_view t)))
    ]

    parent_below : (t : Sealing (x.journal r)) → (p : Digest) → parent_at blocks t.ballot.block ≡ Some p → view_at blocks p < view_at blocks t.ballot.block
    parent_below t p is =
        let v = lawful_vote t in
        let below = v.valid.below in
        omega (arith, ap (view_at blocks) (same_parent t p is), parent_view t, own_view t, v.own_view, below)

    parent_certified : (t : Sealing (x.journal r)) → (p : Digest) → parent_at blocks t.ballot.block ≡ Some p → IsFirstOrCertified s h p
    parent_certified t p is =
        let v = lawful_vote t in
        let inside : Contains (x.journal r) t.entry = subst (λ (es : List Entry). Contains es t.entry) (sym t.is) (at_split t.before t.entry t.after) in
        let c = v.block.cert in
        subst (λ (d : Digest). IsFirstOrCertified s h d) (sym (same_parent t p is ∙ (parent_voted t).digest))
        (good_certified c v.valid.good (λ q honest_q named. sound.unforged r t.entry q (ballot c.view c.block) honest inside v.done honest_q
        (subst (λ (m : Message). Carries m q (ballot c.view c.block)) (sym v.delivered) (named, refl))))

    -- the grandparent of a block voted for is not above the lock of any later prefix
    lock_kept : (t u : Sealing (x.journal r)) (gap : List Entry) → u.before ≡ (t.before ++ t.entry ∷ []) ++ gap
        → (g : Digest) → IsAncestor h 2 t.ballot.block g → view_at blocks g ≤ view_at blocks (lock s u.before).digest
    lock_kept t u gap later g path =
        let v = lawful_vote t in
        let c = v.block.cert in
        let p = (parent_voted t).block in
        let up : parent_at blocks p.digest ≡ Some path.2.0 =
        subst (λ (d : Digest). parent_at blocks d ≡ Some path.2.0) (same_parent t path.0 path.1) path.2.1 in
        let reported = parent_reported s x sound.uncollided p path.2.0 (parent_voted t).is_known up in
        let stays : Contains (stored u.before) p =
        subst (λ (es : List Entry). Contains (stored es) p) (sym later)
        (stored_later (t.before ++ t.entry ∷ []) gap p (stored_later t.before (t.entry ∷ []) p (parent_voted t).is_stored)) in
        let entry_there : Contains u.before t.entry =
        subst (λ (es : List Entry). Contains es t.entry) (sym later)
        (Contains-append_left (t.before ++ t.entry ∷ []) gap t.entry (at_split t.before t.entry [])) in
        let again = parent_stored s u.before (kept_prefix s x u.before sound (prefix_of u)) p stays (parent_parts blocks p reported.0 reported.1).0 in
        let among = parent_within blocks (one_known s x sound.uncollided) (stored u.before)
        (stored_known s x sound.uncollided u.before (prefix_of u)) p again.block again.parent in
        let same : again.block ≡ reported.0 = same_Some again.block reported.0 (sym among ∙ reported.1) in
        let at : block_at (stored u.before) c.block ≡ Some p =
        subst (λ (d : Digest). block_at (stored u.before) d ≡ Some p) (parent_voted t).digest (at_stored u.before (prefix_of u) p stays) in
        let above : again.block.view ≤ (lock s u.before).view =
        lock_above s u.before c.block p again.block (proposed_taken s u.before t.entry v.block entry_there v.done v.delivered) at again.parent in
        let view_g : view_at blocks g ≡ reported.0.view =
        ap (view_at blocks) (sym (reported.2 ∙ path.2.2)) ∙ view_known s x sound.uncollided reported.0 (parent_inside blocks p reported.0 reported.1) in
        omega (arith, view_g, ap (λ (z : Named). z.view) same, above, lock_view u)

  each_of : (P : Vote Digest → Type 0) → ((r : ℕ) → (honest : IsHonest s x r) → (t : Sealing (x.journal r)) → P (cast s (x.journal r) t)) → Facts.EachVote s h P
  each_of P holds r below honest = each_vote s (x.journal r) P (holds r (record { below = below; honest = honest }))

  pub lawful_history : Facts.IsLawfulHistory s h
  lawful_history = record {
    few_faulty = sound.few_faulty;
    first_has_no_parent = refl;
    own_view = each_of (λ v. h.view v.block ≡ v.view) own_view;
    ascending = λ r below honest. votes_rise s (x.journal r) (sound.lawful r (record { below = below; honest = honest })).ascending;
    above_lock = each_of (λ v. h.view v.lock < v.view) above_lock;
    by_rule = each_of (Facts.MeetsRule h) by_rule;
    parent_below = each_of (λ v. (p : Digest) → h.parent v.block ≡ Some p → h.view p < h.view v.block) parent_below;
    parent_certified = each_of (λ v. (p : Digest) → h.parent v.block ≡ Some p → IsFirstOrCertified s h p) parent_certified;
    lock_kept = λ r below honest. each_two_votes s (x.journal r) (λ earlier later. (g : Digest) → IsAncestor h 2 earlier.block g → h.view g ≤ h.view later.lock)
        (votes_rise s (x.journal r) (sound.lawful r (record { below = below; honest = honest })).ascending)
        (λ before e after is v w one other. same_view r (record { below = below; honest = honest }) before e after is v w one other)
        (lock_kept r (record { below = below; honest = honest }));
  }
