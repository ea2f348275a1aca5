-- The steps of one pass, in sequence, give the answer for an entry and the state after it.
use Rattle.std.proofs.Common.{◌≡◌, ℕ, ◌+◌, List, length, Bool, true, false, ◌&&◌, ◌==◌, Some, refl, ap, ◌∙◌}
use Rattle.std.specs.Prelude.{nat_le, if◌then◌else◌}
use Rattle.std.specs.List.{list_all}
use Rattle.std.specs.Cmp.{unsigned_Decides}
use Rattle.seq_base.specs.declared.block.Block.{Block}
use Rattle.seq_base.specs.declared.digest.Digest.{Digest}
use Rattle.seq_base.specs.Setting.{quorum_of}
use Rattle.hotstuff_core.specs.Rules.{State as Safe, seen_in}
use Rattle.agreement_laws.specs.Journals.{Ballot}
use Rattle.node_core.specs.declared.entry.Entry.{Entry}
use Rattle.node_core.specs.Rows.{Check}
use Rattle.journal_rules.specs.JournalPrefixes.{arrived_by}
use Rattle.journal_rules.specs.Rules.{ballots_by}
use Rattle.journal_rules.specs.Sealed.{marks_in}
use Rattle.audit_core.specs.declared.carried.Carried.{Carried}
use Rattle.audit_core.specs.declared.carried.Carried.TheVariants as carried
use Rattle.audit_core.specs.Bringing.{add_voter, carried_in, counted, taken}
use Rattle.audit_core.specs.Audited.{Audited}
use Rattle.audit_core.specs.Judging.{goes_on, takes_on, rule_on, next_on}
use Rattle.audit_core.specs.Marking.{marked}
use Rattle.audit_core.specs.Sets.{voters_of}
use Rattle.audit_core.specs.Voting.{vote_on, last_view}
use Rattle.run_record.proofs.Dues.{same_all}

-- with another count, other marks and another last vote
abbrev pub moved : Audited → ℕ → List (ℕ × ℕ) → ℕ → Audited
moved j kept marks voted = record j { kept = kept; marks = marks; safety = record j.safety { voted = voted } }

voted_if : (t : Bool) (store : List Block) (view : ℕ) (block : Digest) (safe : Safe) (voted : ℕ)
    → (if t then seen_in store view block (record safe { voted = voted }) else record safe { voted = voted })
    ≡ record (if t then seen_in store view block safe else safe) { voted = voted }
voted_if true store view block safe voted = refl
voted_if false store view block safe voted = refl

-- These change nothing of what is applied.
pub taken_moved : (b : Carried) (j : Audited) (kept : ℕ) (marks : List (ℕ × ℕ)) (voted : ℕ)
    → taken b (moved j kept marks voted) ≡ moved (taken b j) kept marks voted
taken_moved carried.Nothing j kept marks voted = refl
taken_moved (carried.Cert view block) j kept marks voted = refl
taken_moved (carried.Block digest block proposed) j kept marks voted = refl
taken_moved (carried.Vote replica view block) j kept marks voted =
    ap (λ (s : Safe).
    record {
      setting = j.setting;
      replica = j.replica;
      arrivals = j.arrivals;
      kept = kept;
      store = j.store;
      safety = s;
      voters = counted replica block j.voters;
      marks = marks;
    })
    (voted_if (nat_le (quorum_of j.setting) (length (add_voter replica (voters_of j.voters block)))) j.store view block j.safety voted)

vote_moved : (b : Carried) (j : Audited) (kept : ℕ) (marks : List (ℕ × ℕ)) (voted : ℕ) (v : Ballot) → vote_on (moved j kept marks voted) b v ≡ vote_on j b v
vote_moved carried.Nothing j kept marks voted v = refl
vote_moved (carried.Cert view block) j kept marks voted v = refl
vote_moved (carried.Block digest block proposed) j kept marks voted v = refl
vote_moved (carried.Vote replica view block) j kept marks voted v = refl

pub votes_moved : (b : Carried) (j : Audited) (kept : ℕ) (marks : List (ℕ × ℕ)) (voted : ℕ) (votes : List Ballot)
    → list_all (vote_on (moved j kept marks voted) b) votes ≡ list_all (vote_on j b) votes
votes_moved b j kept marks voted votes = same_all (vote_on (moved j kept marks voted) b) (vote_on j b) (vote_moved b j kept marks voted) votes

-- ---- the rules, in sequence

module _ (fits : Check) (j : Audited) (e : Entry) where
  abbrev one : Bool
  one = goes_on j.arrivals j.kept e.turned.kept (arrived_by e.event)

  pub breaks_first : one ≡ false → rule_on fits j e ≡ Some 1
  unfolding rule_on
  breaks_first a = rw a refl

  pub breaks_second : one ≡ true → takes_on fits j e ≡ false → rule_on fits j e ≡ Some 2
  unfolding rule_on
  breaks_second a b = rw (a, b) refl

  -- all arrivals are known
  pub kept_is : one ≡ true → e.turned.kept ≡ j.kept + length (arrived_by e.event)
  kept_is a = (unsigned_Decides e.turned.kept (j.kept + length (arrived_by e.event))).0 (left (e.turned.kept == j.kept + length (arrived_by e.event)) _ a)
    where
      left : (t u : Bool) → (t && u) ≡ true → t ≡ true
      left true u is = refl
      left false u is = absurd (cc)

  -- the state after the steps
  pub after_steps : (kept : ℕ) (marks : List (ℕ × ℕ)) (voted : ℕ) → kept ≡ j.kept + length (arrived_by e.event)
      → marks ≡ marked j.marks (marks_in e.turned.sealed)
      → voted ≡ last_view j.safety.voted (ballots_by e) → taken (carried_in e) (moved j kept marks voted) ≡ next_on j e
  after_steps kept marks voted is_kept are_marks is_voted =
      taken_moved (carried_in e) j kept marks voted
      ∙ ap (λ (k : ℕ). moved (taken (carried_in e) j) k marks voted) is_kept
      ∙ ap (λ (ms : List (ℕ × ℕ)). moved (taken (carried_in e) j) (j.kept + length (arrived_by e.event)) ms voted) are_marks
      ∙ ap (λ (v : ℕ). moved (taken (carried_in e) j) (j.kept + length (arrived_by e.event)) (marked j.marks (marks_in e.turned.sealed)) v) is_voted
