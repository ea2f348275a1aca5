-- The votes that a node stores are those that its journal shows, until they form a certificate.
use Rattle.std.proofs.Common.{◌≡◌, ℕ, ◌<◌, ◌≤◌, List, [], ◌∷◌, ◌++◌, length, Bool, true, false, cond, Some, None, nat_eq, refl, sym, ap, ◌∙◌, inl, inr, arith, ◌||◌, ◌&&◌, ◌==◌}
use Rattle.std.specs.Prelude.{All, find, not, unwrap_or}
use Rattle.std.proofs.lemmas.Bool.{and_parts, cases_Bool, eqb-true, or_parts}
use Rattle.std.proofs.lemmas.Bool.Decides.{nat_tests}
use Rattle.std.proofs.lemmas.List.Elements.{All-nil, All-cons, All-head, All-tail}
use Rattle.seq_base.specs.declared.digest.Digest.{Digest}
use Rattle.seq_base.specs.declared.block.CertVote.{CertVote}
use Rattle.seq_base.specs.Blocks.{digest_eq}
use Rattle.seq_base.specs.Setting.{Parameters}
use Rattle.count_set.specs.Sets.{is_among}
use Rattle.quorum_cert.specs.Boxes.{has_vote}
use Rattle.agreement_laws.specs.Journals.{Entry as Shown}
use Rattle.agreement_laws.specs.JournalPrefixes.{voter_by, voters}
use Rattle.agreement_laws.proofs.Digests.{same_true, true_same}
use Rattle.node_core.specs.State.{Ballot}
use Rattle.node_core.specs.Vote.{is_for, has_voted, empty_ballot}
use Rattle.journal_rules.proofs.Voters.{voters_same}
use Rattle.journal_laws.proofs.Firsts.{without_first, find_others}

-- ---- the ballots that are stored

-- the ballot of a block in a view: the one that is stored, or an empty one
abbrev pub box_for : Parameters → ℕ → Digest → List Ballot → Ballot
box_for s v d boxes = unwrap_or (find (is_for v d) boxes) (empty_ballot s v d)

-- it did not form its certificate yet
pub record IsOpen (s : Parameters) (b : Ballot) : Type 0 where
  pub formed : b.votes.formed ≡ false
  pub setting : b.votes.setting ≡ s

-- No block has two ballots in a view.
abbrev pub Apart : List Ballot → Type 0
Apart boxes = (v : ℕ) (d : Digest) → find (is_for v d) (without_first (is_for v d) boxes) ≡ None

pub record AreVotes (voters : List ℕ) (votes : List CertVote) : Type 0 where
  pub count : length voters ≡ length votes
  pub among : (q : ℕ) → is_among voters q ≡ has_vote votes q

-- Above the view of the highest certificate, the stored votes are those of the prefix.
pub record VotesTied (s : Parameters) (high : ℕ) (boxes : List Ballot) (prior : List Shown) : Type 0 where
  pub open_boxes : All (IsOpen s) boxes
  pub apart : Apart boxes
  pub same : (v : ℕ) (d : Digest) → high < v → AreVotes (voters v d prior) (box_for s v d boxes).votes.votes

pub votes_at_first : (s : Parameters) → VotesTied s 0 [] []
votes_at_first s = record {
  open_boxes = All-nil (IsOpen s);
  apart = λ v d. refl;
  same = λ v d above. record { count = refl; among = λ q. refl };
}

-- an entry that delivers no vote
pub no_vote_ties : (s : Parameters) (high higher : ℕ) (boxes : List Ballot) (prior : List Shown) (e : Shown) → high ≤ higher
    → ((v : ℕ) (d : Digest) → voter_by v d e ≡ None)
    → VotesTied s high boxes prior → VotesTied s higher boxes (prior ++ e ∷ [])
no_vote_ties s high higher boxes prior e above none tied = record {
  open_boxes = tied.open_boxes;
  apart = tied.apart;
  same = λ v d over. rw (voters_same v d prior e (none v d)) (tied.same v d (omega (arith, above, over)));
}

-- ---- keys

is_for_own : (v : ℕ) (d : Digest) (b : Ballot) → is_for v d b ≡ true → (b.view ≡ v) × (b.block ≡ d)
is_for_own v d b is = let parts = and_parts (nat_eq b.view v) (digest_eq b.block d) is in
    ((let same : nat_eq b.view v ≡ true = parts.0 in grind (arith, nat_tests)), same_true b.block d parts.1)

for_key : (v : ℕ) (d : Digest) (b : Ballot) → b.view ≡ v → b.block ≡ d → is_for v d b ≡ true
for_key v d b view block =
    let one : nat_eq b.view v ≡ true = grind (arith, nat_tests) in
    rw (one, true_same b.block d block) refl

-- ballots for one key are not for another
pub other_key : (v w : ℕ) (d e : Digest) → ((v ≡ w) → (d ≡ e) → ⊥) → (b : Ballot) → is_for v d b ≡ true → is_for w e b ≡ false
other_key v w d e other b is = elim (cases_Bool (is_for w e b)) [
  | inl too ↦
      let one = is_for_own v d b is in
      let two = is_for_own w e b too in
      absurd (other (sym one.0 ∙ two.0) (sym one.1 ∙ two.1))
  | inr not ↦ not
]

pub box_key : (s : Parameters) (v : ℕ) (d : Digest) (boxes : List Ballot) → is_for v d (box_for s v d boxes) ≡ true
box_key s v d [] = for_key v d (empty_ballot s v d) refl refl
box_key s v d (b ∷ boxes) = by (is_for v d b) refl (box_key s v d boxes)
  where
    by : (t : Bool) → is_for v d b ≡ t → is_for v d (box_for s v d boxes) ≡ true
        → is_for v d (unwrap_or (cond t (Some b) (find (is_for v d) boxes)) (empty_ballot s v d)) ≡ true
    by true is later = is
    by false is later = later

pub box_open : (s : Parameters) (v : ℕ) (d : Digest) (boxes : List Ballot) → All (IsOpen s) boxes → IsOpen s (box_for s v d boxes)
box_open s v d [] all = record { formed = refl; setting = refl }
box_open s v d (b ∷ boxes) all = by (is_for v d b) (box_open s v d boxes (All-tail (IsOpen s) b boxes all))
  where
    by : (t : Bool) → IsOpen s (box_for s v d boxes) → IsOpen s (unwrap_or (cond t (Some b) (find (is_for v d) boxes)) (empty_ballot s v d))
    by true later = All-head (IsOpen s) b boxes all
    by false later = later

pub box_unvoted : (s : Parameters) (v : ℕ) (d : Digest) (r : ℕ) (boxes : List Ballot) → has_voted boxes v d r ≡ false
    → has_vote (box_for s v d boxes).votes.votes r ≡ false
box_unvoted s v d r [] none = refl
box_unvoted s v d r (b ∷ boxes) none = by (is_for v d b) none (box_unvoted s v d r boxes)
  where
    by : (t : Bool) → ((t && has_vote b.votes.votes r) || has_voted boxes v d r) ≡ false
        → (has_voted boxes v d r ≡ false → has_vote (box_for s v d boxes).votes.votes r ≡ false)
        → has_vote (unwrap_or (cond t (Some b) (find (is_for v d) boxes)) (empty_ballot s v d)).votes.votes r ≡ false
    by true is later = (or_parts (has_vote b.votes.votes r) (has_voted boxes v d r) is).0
    by false is later = later is

-- ---- the other ballots

pub open_others : (s : Parameters) (p : Ballot → Bool) (boxes : List Ballot) → All (IsOpen s) boxes → All (IsOpen s) (without_first p boxes)
open_others s p [] all = All-nil (IsOpen s)
open_others s p (b ∷ boxes) all = by (p b) (open_others s p boxes rest)
  where
    rest : All (IsOpen s) boxes
    rest = All-tail (IsOpen s) b boxes all

    by : (t : Bool) → All (IsOpen s) (without_first p boxes) → All (IsOpen s) (cond t boxes (b ∷ without_first p boxes))
    by true later = rest
    by false later = All-cons (IsOpen s) b (without_first p boxes) (All-head (IsOpen s) b boxes all) later

module _ (v : ℕ) (d : Digest) where
  abbrev p : Ballot → Bool
  p = is_for v d

  none_without : (boxes : List Ballot) → find p boxes ≡ None → without_first p boxes ≡ boxes
  none_without [] none = refl
  none_without (b ∷ boxes) none = by (p b) none (none_without boxes)
    where
      by : (t : Bool) → cond t (Some b) (find p boxes) ≡ None → (find p boxes ≡ None → without_first p boxes ≡ boxes)
          → cond t boxes (b ∷ without_first p boxes) ≡ b ∷ boxes
      by true is later = absurd (cc)
      by false is later = ap (λ (bs : List Ballot). b ∷ bs) (later is)

  swapped : (q : Ballot → Bool) → ((b : Ballot) → p b ≡ true → q b ≡ false) → (boxes : List Ballot)
      → without_first q (without_first p boxes) ≡ without_first p (without_first q boxes)
  swapped q apart [] = refl
  swapped q apart (b ∷ boxes) = by (p b) (q b) refl refl (swapped q apart boxes)
    where
      by : (t u : Bool) → p b ≡ t → q b ≡ u → without_first q (without_first p boxes) ≡ without_first p (without_first q boxes)
          → without_first q (cond t boxes (b ∷ without_first p boxes)) ≡ without_first p (cond u boxes (b ∷ without_first q boxes))
      by true true is_p is_q same = let never : true ≡ false = sym is_q ∙ apart b is_p in absurd (cc)
      by true false is_p is_q same = rw is_p refl
      by false true is_p is_q same = rw is_q refl
      by false false is_p is_q same = rw (is_p, is_q) (ap (λ (bs : List Ballot). b ∷ bs) same)

  pub last_other : (q : Ballot → Bool) (boxes : List Ballot) (b : Ballot) → q b ≡ false → without_first q (boxes ++ b ∷ []) ≡ without_first q boxes ++ b ∷ []
  last_other q [] b not = rw not refl
  last_other q (x ∷ boxes) b not = by (q x) (last_other q boxes b not)
    where
      by : (t : Bool) → without_first q (boxes ++ b ∷ []) ≡ without_first q boxes ++ b ∷ []
          → cond t (boxes ++ b ∷ []) (x ∷ without_first q (boxes ++ b ∷ [])) ≡ cond t boxes (x ∷ without_first q boxes) ++ b ∷ []
      by true same = refl
      by false same = ap (λ (bs : List Ballot). x ∷ bs) same

  pub last_own : (boxes : List Ballot) (b : Ballot) → find p boxes ≡ None → p b ≡ true → without_first p (boxes ++ b ∷ []) ≡ boxes
  last_own [] b none is = rw is refl
  last_own (x ∷ boxes) b none is = by (p x) none (last_own boxes b)
    where
      by : (t : Bool) → cond t (Some x) (find p boxes) ≡ None → (find p boxes ≡ None → p b ≡ true → without_first p (boxes ++ b ∷ []) ≡ boxes)
          → cond t (boxes ++ b ∷ []) (x ∷ without_first p (boxes ++ b ∷ [])) ≡ x ∷ boxes
      by true none later = absurd (cc)
      by false none later = ap (λ (bs : List Ballot). x ∷ bs) (later none is)

  pub find_last : (q : Ballot → Bool) (boxes : List Ballot) (b : Ballot) → q b ≡ false → find q (boxes ++ b ∷ []) ≡ find q boxes
  find_last q [] b not = rw not refl
  find_last q (x ∷ boxes) b not = ap (cond (q x) (Some x)) (find_last q boxes b not)

  pub find_own : (boxes : List Ballot) (b : Ballot) → find p boxes ≡ None → p b ≡ true → find p (boxes ++ b ∷ []) ≡ Some b
  find_own [] b none is = rw is refl
  find_own (x ∷ boxes) b none is = by (p x) none (find_own boxes b)
    where
      by : (t : Bool) → cond t (Some x) (find p boxes) ≡ None → (find p boxes ≡ None → p b ≡ true → find p (boxes ++ b ∷ []) ≡ Some b)
          → cond t (Some x) (find p (boxes ++ b ∷ [])) ≡ Some b
      by true none later = absurd (cc)
      by false none later = later none is

  pub apart_others : (boxes : List Ballot) → Apart boxes → Apart (without_first p boxes)
  apart_others boxes apart w e = elim (cases_Bool ((v == w) && digest_eq d e)) [
    | inl is ↦
        let parts = and_parts (v == w) (digest_eq d e) is in
        let same_view : v ≡ w = eqb-true v w parts.0 in
        rw (← same_view, ← same_true d e parts.1, none_without (without_first p boxes) (apart v d)) (apart v d)
    | inr not ↦
        let other : (b : Ballot) → p b ≡ true → is_for w e b ≡ false = λ b. other_key v w d e (differ w e not) b in
        ap (find (is_for w e)) (swapped (is_for w e) other boxes) ∙ find_others p (is_for w e) (without_first (is_for w e) boxes) other ∙ apart w e
  ]
    where
      differ : (w : ℕ) (e : Digest) → ((v == w) && digest_eq d e) ≡ false → v ≡ w → d ≡ e → ⊥
      differ w e not one two =
          let views : (v == w) ≡ true = grind (arith, nat_tests) in
          let never : true ≡ false = sym (rw (views, true_same d e two) refl) ∙ not in
          absurd (cc)
