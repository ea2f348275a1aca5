-- The invariant between a node's state and a prefix of its journal, and that each kind of entry preserves it.
use Rattle.std.proofs.Common.{◌≡◌, ℕ, suc, ◌<◌, ◌≤◌, List, [], ◌∷◌, ◌++◌, length, Bool, true, false, cond, Option, Some, None, max, nat_lt, nat_eq, refl, sym, ap, subst, ◌∙◌, inl, inr, ◌⊎◌, arith}
use Rattle.std.specs.Prelude.{All, Contains, not, if◌then◌else◌}
use Rattle.std.specs.List.{AllPairs, Any}
use Rattle.std.specs.Option.{option_map_or}
use Rattle.std.proofs.lemmas.Bool.{and_parts, cases_Bool, ltb-false, ltb-true, not-false, or_cases}
use Rattle.std.proofs.lemmas.Bool.Decides.{nat_tests}
use Rattle.std.proofs.lemmas.Grind.{flat_map-append}
use Rattle.std.proofs.lemmas.List.{append-nil}
use Rattle.std.proofs.lemmas.List.Elements.{All-nil, All-append, All-head, All-weaker}
use Rattle.seq_base.specs.declared.tx.Tx.{Tx}
use Rattle.seq_base.specs.declared.digest.Digest.{Digest}
use Rattle.seq_base.specs.declared.block.Block.{Block}
use Rattle.seq_base.specs.declared.block.Cert.{Cert}
use Rattle.seq_base.specs.declared.block.CertVote.{CertVote}
use Rattle.seq_base.specs.declared.order.SealedOrder.{SealedOrder}
use Rattle.seq_base.specs.Blocks.{first_digest, digest_eq, block_eq, block_eq_decides}
use Rattle.seq_base.specs.Setting.{Parameters}
use Rattle.block_store.specs.Store.{block_digest, block_at, is_stored, clashes, with_block}
use Rattle.block_store.specs.Chains.{extends, reaches}
use Rattle.hotstuff_core.specs.Rules.{view_at, seen_in, is_safe, is_at}
use Rattle.agreement_laws.specs.Journals.{Named, Message, Ballot, Entry as Shown}
use Rattle.agreement_laws.specs.JournalPrefixes.{parent_in, LeadsTo, block_at as shown_at, stored_by, stored, taken_by, lock, sealed_in, voters, voter_by, completed}
use Rattle.agreement_laws.specs.Lawful.{IsStored, MayBeDone, IsLawfulVote, KeepsVotingRule}
use Rattle.node_core.specs.State.{Known}
use Rattle.node_core.specs.Vote.{has_voted, others, ballot_of, with_vote, formed, boxes_with}
use Rattle.node_core.specs.Rows.{is_stored_elsewhere}
use Rattle.node_core.specs.declared.state.votes.Formed.{Formed}
use Rattle.journal_rules.specs.Shown.{named}
use Rattle.journal_rules.proofs.Ends.{pairs_more}
use Rattle.agreement_laws.proofs.Lists.{here, there}
use Rattle.agreement_laws.proofs.Digests.{false_other, same_true}
use Rattle.journal_rules.specs.Held.{SafeTied}
use Rattle.journal_rules.specs.Stores.{at, IsTied}
use Rattle.journal_rules.proofs.Stores.{at_cases, at_view, view_found, stored_found, none_at_first, leads}
use Rattle.journal_rules.proofs.GrownStores.{at_stays, grows}
use Rattle.journal_rules.proofs.NextPrefix.{AllMove, lawful_more, still, sees}
use Rattle.journal_rules.proofs.Kept.{stored_more, stored_same}
use Rattle.journal_laws.proofs.OneVote.{vote_ties}
use Rattle.journal_laws.proofs.Votes.{VotesTied, no_vote_ties}

pub record TiedTo (s : Parameters) (known : Known) (blocks : List Block) (arrived : List Tx) (prior : List Shown) : Type 0 where
  pub setting : known.setting ≡ s
  pub store : known.store ≡ blocks
  pub safe : SafeTied s known.store known.safety known.high.view prior
  pub votes : VotesTied s known.high.view known.boxes prior
  pub prefix : known.prefix ≡ arrived
  pub voted : All (λ b. b.view ≤ known.safety.voted) (sealed_in prior)
  pub lawful : KeepsVotingRule s prior

-- a vote that is accepted
abbrev pub vote_entry : ℕ → ℕ → Digest → Shown
vote_entry r v d = record { message = Message.Vote r v d; is_done = true; sealed = [] }

-- the higher of two certificates
pub higher_view : (high cert : Cert) → max high.view cert.view ≡ (if nat_lt high.view cert.view then cert else high).view
higher_view high cert = elim (cases_Bool (nat_lt high.view cert.view)) [
  | inl is ↦ rw is (let less : high.view < cert.view = ltb-true high.view cert.view is in omega arith)
  | inr not ↦ rw not (let less : cert.view ≤ high.view = ltb-false high.view cert.view not in omega arith)
]

-- ---- certificates and blocks, as the laws of agreement see them

-- a stored block that is not stored with another view
module _ (s : Parameters) (known : Known) (blocks : List Block) (arrived : List Tx) (prior : List Shown) (tied : TiedTo s known blocks arrived prior) where
  pub found_with : (d : Digest) (v : ℕ) → is_stored known.store d ≡ true → is_stored_elsewhere known d v ≡ false
      → (b : Named) × (at known.store d ≡ Some b) × (b.view ≡ v)
  found_with d v stored_there same =
      let b = stored_found known.store d stored_there in
      let one : is_stored_elsewhere known d v ≡ not (nat_eq b.0.view v) =
      ap (λ o. option_map_or (λ (w : ℕ). not (nat_eq w v)) o false) (view_found known.store d b.0 b.1) in
      (b.0, b.1, equal b.0.view v (sym one ∙ same))
    where
      equal : (m n : ℕ) → not (nat_eq m n) ≡ false → m ≡ n
      equal m n is = (let holds_now : nat_eq m n ≡ true = not-false (nat_eq m n) is in grind (arith, nat_tests))

  pub shown_stored : (d : Digest) (b : Named) (v : ℕ) → at known.store d ≡ Some b → b.view ≡ v → IsStored prior d v
  shown_stored d b v found is =
      let p = shown_inside (stored prior) d b (tied.safe.stores.same d ∙ found) in
      any_from (stored prior) b p.0 (p.1, is)
    where
      shown_inside : (bs : List Named) (d : Digest) (b : Named) → shown_at bs d ≡ Some b → Contains bs b × (b.digest ≡ d)
      shown_inside [] d b found = absurd (cc)
      shown_inside (x ∷ bs) d b found = by (digest_eq x.digest d) refl found (shown_inside bs d b)
        where
          by : (t : Bool) → digest_eq x.digest d ≡ t → cond t (Some x) (shown_at bs d) ≡ Some b
              → (shown_at bs d ≡ Some b → Contains bs b × (b.digest ≡ d)) → Contains (x ∷ bs) b × (b.digest ≡ d)
          by true is one later = let same : x ≡ b = cc in subst (λ (y : Named). Contains (x ∷ bs) y × (y.digest ≡ d)) same (here x bs, same_true x.digest d is)
          by false is one later = let q = later one in (there x bs b q.0, q.1)

      any_from : (bs : List Named) (b : Named) → Contains bs b → (b.digest ≡ d) × (b.view ≡ v) → Any (λ x. (x.digest ≡ d) × (x.view ≡ v)) bs
      any_from bs b inside holds_it = (inside.0, b, inside.1, inside.2, holds_it)

  votes_none : (x : Shown) → x.sealed ≡ [] → sealed_in (prior ++ x ∷ []) ≡ sealed_in prior
  votes_none x none = flat_map-append (λ (e : Shown). e.sealed) prior (x ∷ []) ∙ rw none (append-nil (sealed_in prior))

  no_votes : (x : Shown) → x.sealed ≡ [] → All (IsLawfulVote s prior x) x.sealed
  no_votes x none = subst (All (IsLawfulVote s prior x)) (sym none) (All-nil (IsLawfulVote s prior x))

  lawful_with : (x : Shown) → x.sealed ≡ [] → (x.is_done ≡ true → MayBeDone s prior x.message) → KeepsVotingRule s (prior ++ x ∷ [])
  lawful_with x none done =
      lawful_more s prior x known.safety.voted tied.lawful done (no_votes x none) tied.voted
      (subst (λ (bs : List Ballot). AllPairs (λ a b. a.view < b.view) (sealed_in prior ++ bs)) (sym none)
      (subst (AllPairs (λ a b. a.view < b.view)) (sym (append-nil (sealed_in prior))) tied.lawful.ascending))

  module _ (laws : AllMove) (next : Known) where
    -- an entry that delivers no certificate, no block and no vote
    pub next_still : (more : List Tx) (x : Shown) → x.sealed ≡ [] → (x.is_done ≡ true → MayBeDone s prior x.message) → stored_by x ≡ None
        → ((v : ℕ) (d : Digest) → voter_by v d x ≡ None)
        → taken_by s (prior ++ x ∷ []) x ≡ None → next.setting ≡ known.setting → next.store ≡ known.store → next.safety ≡ known.safety
        → next.boxes ≡ known.boxes → next.high ≡ known.high
        → next.prefix ≡ known.prefix ++ more → TiedTo s next blocks (arrived ++ more) (prior ++ x ∷ [])
    next_still more x none done unstored unvoted untaken setting store safety boxes high prefix =
        let lawful : KeepsVotingRule s (prior ++ x ∷ []) = lawful_with x none done in
        record {
          setting = setting ∙ tied.setting;
          store = store ∙ tied.store;
          safe = rw (store, safety, high)
              (still laws s known.store known.safety known.high.view prior x tied.safe lawful unstored untaken known.high.view (omega arith));
          votes = rw (boxes, high) (no_vote_ties s known.high.view known.high.view known.boxes prior x (omega arith) unvoted tied.votes);
          prefix = prefix ∙ ap (λ (ts : List Tx). ts ++ more) tied.prefix;
          voted = rw (safety, votes_none x none) tied.voted;
          lawful = lawful;
        }

    -- an entry that delivers a certificate for a stored block, and nothing else
    pub next_seen : (cert : Cert) (b : Named) (x : Shown) → x.sealed ≡ [] → (x.is_done ≡ true → MayBeDone s prior x.message)
        → stored_by x ≡ None → ((v : ℕ) (d : Digest) → voter_by v d x ≡ None)
        → taken_by s (prior ++ x ∷ []) x ≡ Some cert.block → at known.store cert.block ≡ Some b → b.view ≡ cert.view
        → next.setting ≡ known.setting → next.store ≡ known.store → next.safety ≡ seen_in known.store cert.view cert.block known.safety
        → next.boxes ≡ known.boxes
        → next.high ≡ (if nat_lt known.high.view cert.view then cert else known.high) → next.prefix ≡ known.prefix
        → TiedTo s next blocks arrived (prior ++ x ∷ [])
    next_seen cert b x none done unstored unvoted takes found is_view setting store safety boxes high prefix =
        let lawful : KeepsVotingRule s (prior ++ x ∷ []) = lawful_with x none done in
        let above : max known.high.view cert.view ≡ next.high.view = high_is ∙ sym (ap (λ (c : Cert). c.view) high) in
        record {
          setting = setting ∙ tied.setting;
          store = store ∙ tied.store;
          safe = rw (store, safety) (sees laws s known.store known.safety known.high.view prior x tied.safe lawful cert.block cert.view b
              found is_view takes next.high.view (omega (arith, above))
              known.store (subst (IsTied known.store) (sym (stored_same prior x unstored)) tied.safe.stores) (λ d n is. is));
          votes = rw boxes (no_vote_ties s known.high.view next.high.view known.boxes prior x (omega (arith, above)) unvoted tied.votes);
          prefix = prefix ∙ tied.prefix;
          voted = rw (safety, votes_none x none) tied.voted;
          lawful = lawful;
        }
      where
        high_is : max known.high.view cert.view ≡ (if nat_lt known.high.view cert.view then cert else known.high).view
        high_is = higher_view known.high cert

    -- an entry that delivers a vote
    pub next_vote : (r v : ℕ) (d : Digest) (b : Named) (w : CertVote) (order : Option SealedOrder) → w.replica ≡ r → r < s.n
        → at known.store d ≡ Some b → b.view ≡ v
        → known.high.view < v → has_voted known.boxes v d r ≡ false
        → next.setting ≡ known.setting → next.store ≡ known.store → next.prefix ≡ known.prefix
        → next.boxes ≡ boxes_with (formed known v d w order) (others v d known.boxes) (with_vote w order (ballot_of known v d))
        → (formed known v d w order ≡ None → (next.safety ≡ known.safety) × (next.high ≡ known.high))
        → ((f : Formed) → formed known v d w order ≡ Some f → (next.safety ≡ seen_in known.store f.cert.view f.cert.block known.safety)
        × (next.high ≡ (if nat_lt known.high.view f.cert.view then f.cert else known.high)))
        → TiedTo s next blocks arrived (prior ++ vote_entry r v d ∷ [])
    next_vote r v d b w order own below found is_view over new setting store prefix boxes if_none if_some =
        elim (vote_ties known v d w order prior (vote_entry r v d)
        (subst (λ (p : Parameters). VotesTied p known.high.view known.boxes prior) (sym tied.setting) tied.votes) over (rw own new)
        (λ y c. rw own refl)) [
          | inl k ↦
              let same = if_none k.none in
              let untaken : taken_by s (prior ++ vote_entry r v d ∷ []) (vote_entry r v d) ≡ None =
              subst (λ (p : Parameters). completed p d (voters v d (prior ++ vote_entry r v d ∷ [])) ≡ None) tied.setting k.untaken in
              record {
                setting = setting ∙ tied.setting;
                store = store ∙ tied.store;
                safe = rw (store, same.0, same.1) (still laws s known.store known.safety known.high.view prior
                    (vote_entry r v d) tied.safe lawful refl untaken known.high.view (omega arith));
                votes = rw (boxes, same.1) (subst (λ (p : Parameters). VotesTied p known.high.view
                    (boxes_with (formed known v d w order) (others v d known.boxes) (with_vote w order (ballot_of known v d)))
                    (prior ++ vote_entry r v d ∷ [])) tied.setting k.tied);
                prefix = prefix ∙ tied.prefix;
                voted = rw (same.0, votes_none (vote_entry r v d) refl) tied.voted;
                lawful = lawful;
              }
          | inr k ↦
              let same = if_some k.made k.some in
              let takes : taken_by s (prior ++ vote_entry r v d ∷ []) (vote_entry r v d) ≡ Some d =
              subst (λ (p : Parameters). completed p d (voters v d (prior ++ vote_entry r v d ∷ [])) ≡ Some d) tied.setting k.taken in
              let high : next.high.view ≡ v = ap (λ (c : Cert). c.view) same.1 ∙ sym (higher_view known.high k.made.cert) ∙ rw k.view (omega (arith, over)) in
              let safety : next.safety ≡ seen_in known.store v d known.safety = same.0 ∙ rw (k.view, k.block) refl in
              record {
                setting = setting ∙ tied.setting;
                store = store ∙ tied.store;
                safe = rw (store, safety, high) (sees laws s known.store known.safety known.high.view prior
                    (vote_entry r v d) tied.safe lawful d v b found is_view takes v (omega (arith, over))
                    known.store (subst (IsTied known.store) (sym (stored_same prior (vote_entry r v d) refl)) tied.safe.stores) (λ e n is. is));
                votes = rw (boxes, high) (subst (λ (p : Parameters).
                    VotesTied p v (boxes_with (formed known v d w order) (others v d known.boxes) (with_vote w order (ballot_of known v d)))
                    (prior ++ vote_entry r v d ∷ [])) tied.setting k.tied);
                prefix = prefix ∙ tied.prefix;
                voted = rw (safety, votes_none (vote_entry r v d) refl) tied.voted;
                lawful = lawful;
              }
        ]
      where
        lawful : KeepsVotingRule s (prior ++ vote_entry r v d ∷ [])
        lawful = lawful_with (vote_entry r v d) refl (λ done. (below, shown_stored d b v found is_view))

    -- The voting rule, as the laws of agreement state it.
    pub rule_shown : (b : Block) (n : Named) → at known.store b.cert.block ≡ Some n → (block_digest b ≡ first_digest → ⊥)
        → is_safe known.store known.safety b ≡ true
        → LeadsTo (stored prior) (named b) (lock s prior) ⊎ ((lock s prior).view < b.cert.view)
    rule_shown b n found other safe = elim (or_cases (nat_lt (view_at known.store known.safety.lock) b.cert.view) _ safe) [
      | inl above ↦ inr (let less : view_at known.store known.safety.lock < b.cert.view = ltb-true _ _ above in
          subst (λ (v : ℕ). v < b.cert.view) (at_view known.store known.safety.lock (lock s prior) tied.safe.at_lock) less)
      | inr on ↦ elim (or_cases (extends known.store b.cert.block known.safety.lock) (is_at known.store known.safety.lock b) on) [
        | inl following ↦
            let steps = leads known.store (stored prior) tied.safe.stores (length known.store) b.cert.block known.safety.lock n
            (lock s prior) found tied.safe.at_lock
            (and_parts (is_stored known.store b.cert.block) (reaches (length known.store) known.store b.cert.block known.safety.lock) following).1 in
            inl (suc steps.0, (n, parent_is, steps.1))
        | inr itself ↦ inl (0, is_lock (block_at known.store known.safety.lock) refl itself)
      ]
    ]
      where
        parent_is : parent_in (stored prior) (named b) ≡ Some n
        parent_is = rw (false_other (block_digest b) first_digest other) (tied.safe.stores.same b.cert.block ∙ found)

        is_lock : (o : Option Block) → block_at known.store known.safety.lock ≡ o → option_map_or (λ y. block_eq y b) o false ≡ true → named b ≡ lock s prior
        is_lock None is same = absurd (cc)
        is_lock (Some y) is same =
            let y_is : y ≡ b = (block_eq_decides y b).0 same in
            at_cases known.store known.safety.lock (lock s prior) (named b ≡ lock s prior) tied.safe.at_lock
            (λ first one.
            let found_there : block_at known.store first_digest ≡ Some y = subst (λ (d : Digest). block_at known.store d ≡ Some y) first is in
            let never : None ≡ Some y = sym (none_at_first known.store (stored prior) tied.safe.stores) ∙ found_there in absurd (cc))
            (λ not z at_z one.
            let same_block : Some z ≡ Some y = sym at_z ∙ is in
            let z_is : z ≡ y = cc in
            ap named (sym y_is ∙ sym z_is) ∙ one)

    -- an entry that delivers a block, and perhaps votes for it
    pub next_block : (b : Block) (n : Named) (x : Shown)
        → ((d : Digest) (y : Block) → block_at known.store d ≡ Some y → block_at (with_block b known.store) d ≡ Some y)
        → block_at (with_block b known.store) (block_digest b) ≡ Some b → clashes known.store (block_digest b) b ≡ false
        → at known.store b.cert.block ≡ Some n → n.view ≡ b.cert.view → b.cert.view < b.view
        → stored_by x ≡ Some (named b) → ((v : ℕ) (d : Digest) → voter_by v d x ≡ None) → taken_by s (prior ++ x ∷ []) x ≡ Some b.cert.block
        → (x.is_done ≡ true → MayBeDone s prior x.message)
        → All (IsLawfulVote s prior x) x.sealed → All (λ w. known.safety.voted < w.view) x.sealed
        → All (λ w. w.view ≤ next.safety.voted) x.sealed → length x.sealed ≤ 1
        → known.safety.voted ≤ next.safety.voted
        → next.setting ≡ known.setting → next.store ≡ with_block b known.store
        → next.safety.lock ≡ (seen_in known.store b.cert.view b.cert.block known.safety).lock
        → next.safety.committed ≡ (seen_in known.store b.cert.view b.cert.block known.safety).committed → next.boxes ≡ known.boxes
        → next.high ≡ (if nat_lt known.high.view b.cert.view then b.cert else known.high) → next.prefix ≡ known.prefix
        → TiedTo s next (with_block b blocks) arrived (prior ++ x ∷ [])
    next_block b n x stays new alone found is_view below stores_b unvoted takes done votes fresh voted one above setting store lock_is
        commit_is boxes high prefix =
        let higher : max known.high.view b.cert.view ≡ next.high.view = higher_view known.high b.cert ∙ sym (ap (λ (c : Cert). c.view) high) in
        let lawful : KeepsVotingRule s (prior ++ x ∷ []) = lawful_more s prior x known.safety.voted tied.lawful done votes tied.voted ascending in
        let after : List Block = with_block b known.store in
        let ties : IsTied after (stored (prior ++ x ∷ [])) = subst (IsTied after) (sym (stored_more prior x (named b) stores_b))
        (grows known.store b stays new alone (stored prior) tied.safe.stores n found is_view below) in
        let saw : SafeTied s after (seen_in known.store b.cert.view b.cert.block known.safety) next.high.view (prior ++ x ∷ []) =
        sees laws s known.store known.safety known.high.view prior x tied.safe lawful b.cert.block b.cert.view n found is_view takes
        next.high.view (omega (arith, higher)) after ties (at_stays known.store b stays new alone) in
        record {
          setting = setting ∙ tied.setting;
          store = store ∙ ap (with_block b) tied.store;
          safe = record {
            stores = rw store saw.stores;
            at_lock = rw (store, lock_is) saw.at_lock;
            at_commit = rw (store, commit_is) saw.at_commit;
            low = saw.low;
          };
          votes = rw boxes (no_vote_ties s known.high.view next.high.view known.boxes prior x (omega (arith, higher)) unvoted tied.votes);
          prefix = prefix ∙ tied.prefix;
          voted = subst (All (λ w. w.view ≤ next.safety.voted)) (sym sealed_is)
              (All-append (λ w. w.view ≤ next.safety.voted) (sealed_in prior) x.sealed (All-weaker (λ w. w.view ≤ known.safety.voted)
              (λ w. w.view ≤ next.safety.voted) (λ w le. omega (arith, le, above)) (sealed_in prior) tied.voted) voted);
          lawful = lawful;
        }
      where
        sealed_is : sealed_in (prior ++ x ∷ []) ≡ sealed_in prior ++ x.sealed
        sealed_is = flat_map-append (λ (e : Shown). e.sealed) prior (x ∷ []) ∙ ap (λ (bs : List Ballot). sealed_in prior ++ bs) (append-nil x.sealed)

        ascending : AllPairs (λ a b. a.view < b.view) (sealed_in prior ++ x.sealed)
        ascending = with_sealed x.sealed fresh one
          where
            with_sealed : (bs : List Ballot) → All (λ w. known.safety.voted < w.view) bs → length bs ≤ 1
                → AllPairs (λ a b. a.view < b.view) (sealed_in prior ++ bs)
            with_sealed [] fresh one = subst (AllPairs (λ a b. a.view < b.view)) (sym (append-nil (sealed_in prior))) tied.lawful.ascending
            with_sealed (w ∷ []) fresh one =
                let over : known.safety.voted < w.view = All-head (λ w. known.safety.voted < w.view) w [] fresh in
                pairs_more (λ a b. a.view < b.view) (sealed_in prior) w tied.lawful.ascending
                (All-weaker (λ b. b.view ≤ known.safety.voted) (λ b. b.view < w.view) (λ b le. omega (arith, le, over)) (sealed_in prior) tied.voted)
            with_sealed (w ∷ u ∷ bs) fresh one = absurd (omega (arith, one))
