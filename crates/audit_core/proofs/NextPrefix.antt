-- The state of one pass belongs to the prefix with one more entry, if the entry keeps the rules.
use Rattle.std.proofs.Common.{◌≡◌, ℕ, List, [], ◌∷◌, ◌++◌, length, max, Bool, true, false, Some, None, refl, ap, ◌∙◌}
use Rattle.std.specs.Prelude.{nat_le}
use Rattle.seq_base.specs.declared.block.Block.{Block}
use Rattle.seq_base.specs.declared.digest.Digest.{Digest}
use Rattle.seq_base.specs.Setting.{Parameters, quorum_of}
use Rattle.seq_base.specs.Writable.{IsWritableBlock}
use Rattle.block_store.specs.Store.{block_digest, block_at, clashes, with_block}
use Rattle.hotstuff_core.specs.Rules.{State as Safe, seen_in}
use Rattle.agreement_laws.specs.Journals.{Message, Ballot, Entry as Plain}
use Rattle.agreement_laws.specs.JournalPrefixes.{stored_by, taken_by, voters, voter_by}
use Rattle.agreement_laws.specs.Lawful.{IsStored, IsValidBlock, KeepsVotingRule as Agrees}
use Rattle.journal_rules.specs.Shown.{named}
use Rattle.journal_rules.proofs.NextPrefix.{AllMove}
use Rattle.journal_rules.proofs.Stores.{found_stored}
use Rattle.journal_rules.proofs.BlockInvariants.{FreshWithin, store_more}
use Rattle.audit_core.proofs.VoterCounts.{counts, votes_still, votes_block, votes_vote}
use Rattle.audit_core.proofs.MarkSets.{counted_by}
use Rattle.audit_core.proofs.NextState.{found_in, goes_still, sees_cert, sees_block}
use Rattle.audit_core.specs.Bringing.{add_voter, seen_if}
use Rattle.audit_core.specs.Stands.{AreAlike, VotesTied, Ties}

-- the laws of lower crates that this rests on
pub record Laws : Type 0 where
  pub moves : AllMove
  pub stay : (store : List Block) (next : Block) (d : Digest) (b : Block) → block_at store d ≡ Some b → block_at (with_block next store) d ≡ Some b
  pub found : (store : List Block) (b : Block) → clashes store (block_digest b) b ≡ false → block_at (with_block b store) (block_digest b) ≡ Some b
  pub short : FreshWithin

module _ (laws : Laws) (s : Parameters) (prefix : List Plain) (store : List Block) (safe : Safe) (votes : Digest → List ℕ)
    (ties : Ties s prefix store safe votes) where
  -- nothing is delivered
  pub ties_still : (x : Plain) → Agrees s (prefix ++ x ∷ []) → stored_by x ≡ None → taken_by s (prefix ++ x ∷ []) x ≡ None
      → ((v : ℕ) (d : Digest) → voter_by v d x ≡ None) → Ties s (prefix ++ x ∷ []) store safe votes
  ties_still x agrees unstored untaken none = record {
    high = ties.high;
    safe_tied = goes_still laws.moves s store safe ties.high prefix x ties.safe_tied agrees unstored untaken;
    led = ties.led;
    votes_tied = votes_still prefix x votes ties.votes_tied none unstored;
  }

  -- a certificate is
  pub ties_cert : (x : Plain) → Agrees s (prefix ++ x ∷ []) → (c : Digest) (v : ℕ) → IsStored prefix c v → stored_by x ≡ None
      → taken_by s (prefix ++ x ∷ []) x ≡ Some c → ((w : ℕ) (d : Digest) → voter_by w d x ≡ None)
      → Ties s (prefix ++ x ∷ []) store (seen_in store v c safe) votes
  ties_cert x agrees c v is unstored takes none = record {
    high = max ties.high v;
    safe_tied = sees_cert laws.moves s store safe ties.high prefix x ties.safe_tied agrees c v is unstored takes;
    led = ties.led;
    votes_tied = votes_still prefix x votes ties.votes_tied none unstored;
  }

  -- a block is
  pub ties_block : (x : Plain) → Agrees s (prefix ++ x ∷ []) → (b : Block) → IsWritableBlock b → clashes store (block_digest b) b ≡ false
      → IsValidBlock s prefix (named b)
      → stored_by x ≡ Some (named b) → taken_by s (prefix ++ x ∷ []) x ≡ Some b.cert.block → ((w : ℕ) (d : Digest) → voter_by w d x ≡ None)
      → Ties s (prefix ++ x ∷ []) (with_block b store) (seen_in store b.cert.view b.cert.block safe) votes
  ties_block x agrees b shape alone valid stores takes none =
      let p = found_in laws.moves s store safe ties.high prefix x ties.safe_tied agrees b.cert.block b.cert.view valid.parent in
      record {
        high = max ties.high b.cert.view;
        safe_tied = sees_block laws.moves s store safe ties.high prefix x ties.safe_tied agrees b (laws.stay store b)
            (laws.found store b alone) alone valid.parent valid.below stores takes;
        led = store_more laws.short store b (laws.stay store b) (laws.found store b alone) shape (found_stored store b.cert.block p.0 p.1) alone ties.led;
        votes_tied = votes_block prefix x votes ties.votes_tied (named b) none stores;
      }

-- a vote is delivered
module _ (laws : Laws) (s : Parameters) (prefix : List Plain) (store : List Block) (safe : Safe) (votes : Digest → List ℕ)
    (ties : Ties s prefix store safe votes) (r v : ℕ) (d : Digest) (sealed : List Ballot)
    (agrees : Agrees s (prefix ++ record { message = Message.Vote r v d; is_done = true; sealed = sealed } ∷ [])) (is : IsStored prefix d v) where
  abbrev x : Plain
  x = record { message = Message.Vote r v d; is_done = true; sealed = sealed }

  pub ties_vote : Ties s (prefix ++ x ∷ []) store (seen_if s (add_voter r (votes d)) store v d safe) (counted_by r d votes)
  ties_vote =
      let b = found_in laws.moves s store safe ties.high prefix x ties.safe_tied agrees d v is in
      let found = ties.safe_tied.stores.same d ∙ b.1 in
      let tied = votes_vote prefix x votes ties.votes_tied r v d b.0 found b.2 (λ w e. refl) refl in
      let many : AreAlike (add_voter r (votes d)) (voters v d (prefix ++ x ∷ [])) =
      counts prefix x votes ties.votes_tied r v d b.0 found b.2 (λ w e. refl) refl in
      by (nat_le (quorum_of s) (length (add_voter r (votes d)))) (nat_le (quorum_of s) (length (voters v d (prefix ++ x ∷ [])))) refl refl
      (ap (nat_le (quorum_of s)) many.count) tied
    where
      by : (t u : Bool) → nat_le (quorum_of s) (length (add_voter r (votes d))) ≡ t → nat_le (quorum_of s) (length (voters v d (prefix ++ x ∷ []))) ≡ u
          → nat_le (quorum_of s) (length (add_voter r (votes d))) ≡ nat_le (quorum_of s) (length (voters v d (prefix ++ x ∷ [])))
          → VotesTied (prefix ++ x ∷ []) (counted_by r d votes)
          → Ties s (prefix ++ x ∷ []) store (seen_if s (add_voter r (votes d)) store v d safe) (counted_by r d votes)
      by true true is_t is_u same tied = rw is_t (record {
        high = max ties.high v;
        safe_tied = sees_cert laws.moves s store safe ties.high prefix x ties.safe_tied agrees d v is refl (rw is_u refl);
        led = ties.led;
        votes_tied = tied;
      })
      by false false is_t is_u same tied = rw is_t (record {
        high = ties.high;
        safe_tied = goes_still laws.moves s store safe ties.high prefix x ties.safe_tied agrees refl (rw is_u refl);
        led = ties.led;
        votes_tied = tied;
      })
      by true false is_t is_u same tied = absurd (cc)
      by false true is_t is_u same tied = absurd (cc)
