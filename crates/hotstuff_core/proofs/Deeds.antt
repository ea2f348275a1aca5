-- The votes of a replica that acts by the rules satisfy the facts.
use Rattle.std.proofs.Common.{◌≡◌, ℕ, ◌<◌, ◌≤◌, List, [], ◌∷◌, Bool, true, false, cond, Option, Some, None, unwrap_or, refl, sym, ap, ap₂, subst, ◌∙◌, arith}
use Rattle.std.specs.Prelude.{All, nat_lt}
use Rattle.std.specs.List.{AllPairs}
use Rattle.std.specs.Option.{option_map}
use Rattle.std.proofs.lemmas.Bool.{and_parts, ltb-true}
use Rattle.std.proofs.lemmas.List.Elements.{All-nil, All-cons, All-weaker}
use Rattle.std.proofs.lemmas.List.Kept.{AllPairs-cons}
use Rattle.seq_base.specs.declared.digest.Digest.{Digest}
use Rattle.seq_base.specs.declared.block.Block.{Block}
use Rattle.seq_base.specs.Blocks.{first_digest, digest_eq, digest_eq_decides}
use Rattle.block_store.specs.Store.{block_digest, block_at, is_stored, view_of}
use Rattle.block_store.specs.Chains.{parent_of, extends, Extends}
use Rattle.block_store.specs.Entries.{IsStore}
use Rattle.hotstuff_core.specs.History.{Vote, History, IsAncestor}
use Rattle.hotstuff_core.specs.Facts.{MeetsRule}
use Rattle.hotstuff_core.specs.Rules.{State, view_at, is_safe, voted_in, seen_in}
use Rattle.hotstuff_core.specs.Runs.{Step, lock_after, votes_from}
use Rattle.hotstuff_core.specs.Deeds.{Deed, history_in, vote_for, after_vote, votes_by, IsAt, AreByRules, KeepsFacts}
use Rattle.hotstuff_core.proofs.LockViews.{locks_kept}
use Rattle.hotstuff_core.proofs.Stores.{stored_if_viewed, safe_meets_rule, lock_is}

-- what holds of blocks stored by their digests
pub record FromStores : Type 0 where
  pub by_steps : (store : List Block) (child ancestor : Digest) → IsStore store → is_stored store child ≡ true
      → extends store child ancestor ≡ true → Extends store child ancestor
  pub parents : (store : List Block) (digest parent : Digest) → IsStore store → parent_of store digest ≡ Some parent → is_stored store parent ≡ true

abbrev steps_of : List Deed → List (Step Digest)
steps_of [] = []
steps_of (Deed.Sees store view block ∷ deeds) = Step.Sees block ∷ steps_of deeds
steps_of (Deed.Votes store block ∷ deeds) = Step.Votes (block_digest block) ∷ steps_of deeds

abbrev make_vote : Digest → Digest → ℕ → Vote Digest
make_vote block lock view = record { view = view; block = block; lock = lock }

module _ (known : FromStores) (later : List Block) (none : parent_of later first_digest ≡ None) (faulty : ℕ → Bool) (votes : ℕ → List (Vote Digest)) where
  abbrev reported : History Digest
  reported = history_in later faulty votes

  lock_moves : (store : List Block) (s : State) (view : ℕ) (block : Digest) → IsAt store later s → view_of store block ≡ Some view
      → (seen_in store view block s).lock ≡ lock_after (history_in later faulty votes) s.lock (Some block)
  lock_moves store s view block at of =
      lock_is store later at.grows faulty votes s.lock block view at.has_lock of (λ p. known.parents store block p at.is_store) none

  parent_is : (block : Block) → block_at later (block_digest block) ≡ Some block → parent_of later (block_digest block) ≡ Some block.cert.block
  parent_is block stored = ap (option_map (λ (x : Block). x.cert.block)) stored

  own_view_at : (block : Block) → block_at later (block_digest block) ≡ Some block → view_at later (block_digest block) ≡ block.view
  own_view_at block stored = by (digest_eq (block_digest block) first_digest) refl
    where
      by : (t : Bool) → digest_eq (block_digest block) first_digest ≡ t
          → unwrap_or (cond t (Some 0) (option_map (λ b. b.view) (block_at later (block_digest block)))) 0 ≡ block.view
      by true first =
          let is_none : parent_of later (block_digest block) ≡ None =
          ap (parent_of later) ((digest_eq_decides (block_digest block) first_digest).0 first) ∙ none in
          absurd (cc (is_none, parent_is block stored))
      by false other = ap (λ (o : Option Block). unwrap_or (option_map (λ (b : Block). b.view) o) 0) stored

  voted_above : (s : State) (deeds : List Deed) → AreByRules later s deeds → All (λ v. s.voted < v.view) (votes_by s deeds)
  voted_above s [] are = All-nil (λ v. s.voted < v.view)
  voted_above s (Deed.Sees store view block ∷ deeds) are = voted_above (seen_in store view block s) deeds are.2
  voted_above s (Deed.Votes store block ∷ deeds) are =
      let above : s.voted < block.view = ltb-true s.voted block.view (and_parts (nat_lt s.voted block.view) (is_safe store s block) are.3).0 in
      All-cons (λ v. s.voted < v.view) (vote_for s block) (votes_by (after_vote store block s) deeds) above
      (All-weaker (λ v. block.view < v.view) (λ v. s.voted < v.view) (λ v higher. (omega (arith, higher, above))) (votes_by (after_vote store block s) deeds)
      (voted_above (after_vote store block s) deeds are.4))

  views_rise : (s : State) (deeds : List Deed) → AreByRules later s deeds → AllPairs (λ earlier later. earlier.view < later.view) (votes_by s deeds)
  views_rise s [] are = λ i j d before inside. absurd (omega arith)
  views_rise s (Deed.Sees store view block ∷ deeds) are = views_rise (seen_in store view block s) deeds are.2
  views_rise s (Deed.Votes store block ∷ deeds) are =
      AllPairs-cons (λ earlier later. earlier.view < later.view) (vote_for s block) (votes_by (after_vote store block s) deeds)
      (voted_above (after_vote store block s) deeds are.4) (views_rise (after_vote store block s) deeds are.4)

  views_are_own : (s : State) (deeds : List Deed) → AreByRules later s deeds → All (λ v. view_at later v.block ≡ v.view) (votes_by s deeds)
  views_are_own s [] are = All-nil (λ v. view_at later v.block ≡ v.view)
  views_are_own s (Deed.Sees store view block ∷ deeds) are = views_are_own (seen_in store view block s) deeds are.2
  views_are_own s (Deed.Votes store block ∷ deeds) are =
      All-cons (λ v. view_at later v.block ≡ v.view) (vote_for s block) (votes_by (after_vote store block s) deeds) (own_view_at block are.2)
      (views_are_own (after_vote store block s) deeds are.4)

  meet_rule : (s : State) (deeds : List Deed) → AreByRules later s deeds → All (MeetsRule reported) (votes_by s deeds)
  meet_rule s [] are = All-nil (MeetsRule reported)
  meet_rule s (Deed.Sees store view block ∷ deeds) are = meet_rule (seen_in store view block s) deeds are.2
  meet_rule s (Deed.Votes store block ∷ deeds) are =
      let at = are.0 in
      All-cons (MeetsRule reported) (vote_for s block) (votes_by (after_vote store block s) deeds)
      (safe_meets_rule store later at.grows faulty votes s block at.has_lock are.1 are.2
      (known.by_steps store block.cert.block s.lock at.is_store (stored_if_viewed store block.cert.block block.cert.view are.1))
      (and_parts (nat_lt s.voted block.view) (is_safe store s block) are.3).1)
      (meet_rule (after_vote store block s) deeds are.4)

  same_votes : (s : State) (deeds : List Deed) → AreByRules later s deeds → votes_by s deeds ≡ votes_from reported s.lock (steps_of deeds)
  same_votes s [] are = refl
  same_votes s (Deed.Sees store view block ∷ deeds) are =
      same_votes (seen_in store view block s) deeds are.2
      ∙ ap (λ (lock : Digest). votes_from reported lock (steps_of deeds)) (lock_moves store s view block are.0 are.1)
  same_votes s (Deed.Votes store block ∷ deeds) are =
      let at : IsAt store later (voted_in block.view s) = record { is_store = are.0.is_store; grows = are.0.grows; has_lock = are.0.has_lock } in
      let moves = lock_moves store (voted_in block.view s) block.cert.view block.cert.block at are.1 in
      ap₂ (λ (v : Vote Digest) (vs : List (Vote Digest)). v ∷ vs)
      (ap (make_vote (block_digest block) s.lock) (sym (own_view_at block are.2)))
      (same_votes (after_vote store block s) deeds are.4
      ∙ ap (λ (lock : Digest). votes_from reported lock (steps_of deeds)) (moves ∙ ap (lock_after reported s.lock) (sym (parent_is block are.2))))

  pub facts_kept : (s : State) (deeds : List Deed) → AreByRules later s deeds → KeepsFacts reported (votes_by s deeds)
  facts_kept s deeds are = record {
    own_view = views_are_own s deeds are;
    ascending = views_rise s deeds are;
    by_rule = meet_rule s deeds are;
    lock_kept = subst (λ (vs : List (Vote Digest)).
        AllPairs (λ earlier later. (g : Digest) → IsAncestor reported 2 earlier.block g → reported.view g ≤ reported.view later.lock) vs)
        (sym (same_votes s deeds are)) (locks_kept reported s.lock (steps_of deeds));
  }
