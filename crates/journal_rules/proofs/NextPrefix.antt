-- A prefix with one more entry: its lock, its commit and its store are those of the node after the turn.
use Rattle.std.proofs.Common.{◌≡◌, ℕ, ◌<◌, ◌≤◌, List, [], ◌∷◌, ◌++◌, true, Some, None, max, sym, ap, subst, ◌∙◌, arith}
use Rattle.std.specs.Prelude.{All}
use Rattle.std.specs.List.{AllPairs}
use Rattle.std.proofs.lemmas.Grind.{flat_map-append}
use Rattle.std.proofs.lemmas.List.{append-nil}
use Rattle.seq_base.specs.declared.digest.Digest.{Digest}
use Rattle.seq_base.specs.declared.block.Block.{Block}
use Rattle.seq_base.specs.Setting.{Parameters}
use Rattle.hotstuff_core.specs.Rules.{State as Safe, seen_in}
use Rattle.agreement_laws.specs.Journals.{Named, Ballot, Entry as Shown}
use Rattle.agreement_laws.specs.JournalPrefixes.{stored_by, stored, taken_by, lock, commit, sealed_in}
use Rattle.agreement_laws.specs.Lawful.{MayBeDone, IsLawfulVote, KeepsVotingRule}
use Rattle.agreement_laws.specs.Seen.{lock_seen, commit_seen, IsKeptPrefix}
use Rattle.journal_rules.proofs.Ends.{each_more}
use Rattle.journal_rules.proofs.Kept.{stored_same}
use Rattle.journal_rules.specs.Held.{SafeTied}
use Rattle.journal_rules.specs.Stores.{at, IsTied}
use Rattle.journal_rules.proofs.Stores.{lock_sees, commit_sees, lock_below}

-- the laws on locks and commits, as the lower crate states them
abbrev pub LocksMove : Type 0
LocksMove = (s : Parameters) (before : List Shown) (e : Shown) → IsKeptPrefix s (before ++ e ∷ [])
    → lock s (before ++ e ∷ []) ≡ lock_seen (stored before) (lock s before) (taken_by s (before ++ e ∷ []) e)

abbrev pub CommitsMove : Type 0
CommitsMove = (s : Parameters) (before : List Shown) (e : Shown) → IsKeptPrefix s (before ++ e ∷ [])
    → commit s (before ++ e ∷ []) ≡ commit_seen (stored before) (commit s before) (taken_by s (before ++ e ∷ []) e)

pub record AllMove : Type 0 where
  pub locks : LocksMove
  pub commits : CommitsMove

pub lawful_more : (s : Parameters) (prefix : List Shown) (x : Shown) (voted : ℕ) → KeepsVotingRule s prefix
    → (x.is_done ≡ true → MayBeDone s prefix x.message) → All (IsLawfulVote s prefix x) x.sealed
    → All (λ b. b.view ≤ voted) (sealed_in prefix) → AllPairs (λ a b. a.view < b.view) (sealed_in prefix ++ x.sealed) → KeepsVotingRule s (prefix ++ x ∷ [])
lawful_more s prefix x voted lawful done votes below ascending = record {
  done = each_more (λ before e. e.is_done ≡ true → MayBeDone s before e.message) prefix x lawful.done done;
  votes = each_more (λ before e. All (IsLawfulVote s before e) e.sealed) prefix x lawful.votes votes;
  ascending = subst (λ (bs : List Ballot). AllPairs (λ a b. a.view < b.view) bs)
      (sym (flat_map-append (λ (e : Shown). e.sealed) prefix (x ∷ []) ∙ ap (λ (bs : List Ballot). sealed_in prefix ++ bs) (append-nil x.sealed))) ascending;
}

module _ (laws : AllMove) (s : Parameters) (store : List Block) (safe : Safe) (high : ℕ) (prefix : List Shown) (x : Shown)
    (tied : SafeTied s store safe high prefix)
    (lawful : KeepsVotingRule s (prefix ++ x ∷ [])) where
  abbrev after : List Shown
  after = prefix ++ x ∷ []

  kept_with : (new : List Block) → IsTied new (stored after) → IsKeptPrefix s after
  kept_with new stores = record {
    done = lawful.done;
    one_block = λ a b in_a in_b same.
        let one : Some a ≡ Some b = sym (stores.listed a in_a) ∙ ap (at new) same ∙ stores.listed b in_b in
        let is : a ≡ b = cc in
        is;
  }

  -- an entry that delivers no certificate, over the same store
  pub still : stored_by x ≡ None → taken_by s after x ≡ None → (higher : ℕ) → high ≤ higher → SafeTied s store safe higher after
  still unstored untaken higher above =
      let same : stored after ≡ stored prefix = stored_same prefix x unstored in
      let stores : IsTied store (stored after) = subst (IsTied store) (sym same) tied.stores in
      let kept : IsKeptPrefix s after = kept_with store stores in
      let lock_is : lock s after ≡ lock s prefix = laws.locks s prefix x kept ∙ ap (lock_seen (stored prefix) (lock s prefix)) untaken in
      let commit_is : commit s after ≡ commit s prefix = laws.commits s prefix x kept ∙ ap (commit_seen (stored prefix) (commit s prefix)) untaken in
      record {
        stores = stores;
        at_lock = tied.at_lock ∙ ap (λ (n : Named). Some n) (sym lock_is);
        at_commit = tied.at_commit ∙ ap (λ (n : Named). Some n) (sym commit_is);
        low = subst (λ (n : Named). n.view ≤ higher) (sym lock_is) (omega (arith, tied.low, above));
      }

  -- an entry that delivers a certificate for a stored block, and perhaps a block
  module _ (c : Digest) (view : ℕ) (b : Named) (found : at store c ≡ Some b) (is_view : b.view ≡ view) (takes : taken_by s after x ≡ Some c)
      (higher : ℕ) (above : max high view ≤ higher)
      (new : List Block) (stores : IsTied new (stored after)) (stays : (d : Digest) (n : Named) → at store d ≡ Some n → at new d ≡ Some n) where
    pub sees : SafeTied s new (seen_in store view c safe) higher after
    sees =
        let kept : IsKeptPrefix s after = kept_with new stores in
        let lock_is : lock s after ≡ lock_seen (stored prefix) (lock s prefix) (Some c) =
        laws.locks s prefix x kept ∙ ap (lock_seen (stored prefix) (lock s prefix)) takes in
        let commit_is : commit s after ≡ commit_seen (stored prefix) (commit s prefix) (Some c) =
        laws.commits s prefix x kept ∙ ap (commit_seen (stored prefix) (commit s prefix)) takes in
        let now_lock : at store (seen_in store view c safe).lock ≡ Some (lock_seen (stored prefix) (lock s prefix) (Some c)) =
        lock_sees store (stored prefix) tied.stores safe view c b found is_view (lock s prefix) tied.at_lock in
        let now_commit : at store (seen_in store view c safe).committed ≡ Some (commit_seen (stored prefix) (commit s prefix) (Some c)) =
        commit_sees store (stored prefix) tied.stores safe view c b found is_view (commit s prefix) tied.at_commit in
        record {
          stores = stores;
          at_lock = stays (seen_in store view c safe).lock (lock_seen (stored prefix) (lock s prefix) (Some c)) now_lock
              ∙ ap (λ (n : Named). Some n) (sym lock_is);
          at_commit = stays (seen_in store view c safe).committed (commit_seen (stored prefix) (commit s prefix) (Some c)) now_commit
              ∙ ap (λ (n : Named). Some n) (sym commit_is);
          low = subst (λ (n : Named). n.view ≤ higher) (sym lock_is)
              (omega (arith, above, lock_below store (stored prefix) tied.stores safe view c b found is_view (lock s prefix) high tied.at_lock tied.low));
        }
