-- Votes of ascending replicas, and one more inserted at its position.
use Rattle.std.proofs.Common.{◌≡◌, ℕ, suc, ◌+◌, ◌<◌, ◌≤◌, List, [], ◌∷◌, length, take, drop, true, false, cond, refl, ◌∙◌, inl, inr, arith, length-append, length-take, length-drop}
use Rattle.std.specs.Prelude.{All, insert, nat_lt, nat_le, ◌==◌}
use Rattle.std.proofs.lemmas.Bool.{cases_order, or_parts, lt-ltb, le-ltb, le-leb, leb-true, ltb-true, eqb-false, and_parts, and_from}
use Rattle.std.proofs.lemmas.List.Elements.{All-nil, All-cons, All-head, All-tail, All-append, All-take, All-drop, All-weaker}
use Rattle.std.proofs.lemmas.List.Kept.{AllPairs-cons}
use Rattle.std.proofs.lemmas.List.Sums.{sum_by-cons, count_by-le-length}
use Rattle.seq_base.specs.declared.block.CertVote.{CertVote}
use Rattle.quorum_cert.specs.Boxes.{has_vote, place_in, with_vote}
use Rattle.quorum_cert.specs.Certificates.{is_within, rise_below}
use Rattle.quorum_cert.specs.Quorums.{Rise}

pub rise_none : Rise []
rise_none = λ i j d before inside. absurd (omega arith)

pub rise_first : (v : CertVote) (votes : List CertVote) → Rise (v ∷ votes) → All (λ w. v.replica < w.replica) votes
rise_first v votes rise = λ k d inside. rise 0 (suc k) d (omega arith) (omega (arith, inside))

pub rise_rest : (v : CertVote) (votes : List CertVote) → Rise (v ∷ votes) → Rise votes
rise_rest v votes rise = λ i j d before inside. rise (suc i) (suc j) d (omega (arith, before)) (omega (arith, inside))

pub rise_cons : (v : CertVote) (votes : List CertVote) → All (λ w. v.replica < w.replica) votes → Rise votes → Rise (v ∷ votes)
rise_cons v votes first rest = AllPairs-cons (λ earlier later. earlier.replica < later.replica) v votes first rest

-- what holds for the votes and for one more holds after that one is inserted
pub all_inserted : (P : CertVote → Type 0) (v : CertVote) (votes : List CertVote) (i : ℕ) → P v → All P votes → All P (insert votes i v)
all_inserted P v votes i one all =
    All-append P (take i votes) (v ∷ drop i votes) (All-take P i votes all) (All-cons P v (drop i votes) one (All-drop P i votes all))

place_first : (r : ℕ) (w : CertVote) (votes : List CertVote) → w.replica < r → place_in (w ∷ votes) r ≡ suc (place_in votes r)
place_first r w votes less =
    sum_by-cons (λ (v : CertVote). cond (nat_lt v.replica r) 1 0) w votes ∙ rw (lt-ltb w.replica r less) (omega arith)

place_none : (r : ℕ) (votes : List CertVote) → All (λ w. r ≤ w.replica) votes → place_in votes r ≡ 0
place_none r [] all = refl
place_none r (w ∷ votes) all =
    sum_by-cons (λ (v : CertVote). cond (nat_lt v.replica r) 1 0) w votes
    ∙ rw (le-ltb w.replica r (All-head (λ w. r ≤ w.replica) w votes all), place_none r votes (All-tail (λ w. r ≤ w.replica) w votes all)) refl

pub rise_inserted : (v : CertVote) (votes : List CertVote) → Rise votes → has_vote votes v.replica ≡ false → Rise (with_vote v votes)
rise_inserted v [] rise new = rise_cons v [] (All-nil (λ w. v.replica < w.replica)) rise
rise_inserted v (w ∷ votes) rise new =
    let parts = or_parts (w.replica == v.replica) (has_vote votes v.replica) new in
    elim (cases_order w.replica v.replica) [
      | inl same ↦ absurd (eqb-false w.replica v.replica parts.0 same)
      | inr (inl less) ↦
          rw (place_first v.replica w votes less)
          (rise_cons w (with_vote v votes)
          (all_inserted (λ u. w.replica < u.replica) v votes (place_in votes v.replica) less (rise_first w votes rise))
          (rise_inserted v votes (rise_rest w votes rise) parts.1))
      | inr (inr more) ↦
          let later : All (λ u. v.replica < u.replica) votes = All-weaker (λ u. w.replica < u.replica) (λ u. v.replica < u.replica)
          (λ u above. (omega (arith, above, more))) votes (rise_first w votes rise) in
          let all : All (λ u. v.replica < u.replica) (w ∷ votes) = All-cons (λ u. v.replica < u.replica) w votes more later in
          rw (place_none v.replica (w ∷ votes)
          (All-weaker (λ u. v.replica < u.replica) (λ u. v.replica ≤ u.replica) (λ u above. (omega (arith, above))) (w ∷ votes) all))
          (rise_cons v (w ∷ votes) all rise)
    ]

pub length_inserted : (v : CertVote) (votes : List CertVote) → length (with_vote v votes) ≡ length votes + 1
length_inserted v votes =
    let within = count_by-le-length (λ (w : CertVote). nat_lt w.replica v.replica) votes in
    omega (
      arith,
      length-append (take (place_in votes v.replica) votes) (v ∷ drop (place_in votes v.replica) votes),
      length-take (place_in votes v.replica) votes,
      length-drop (place_in votes v.replica) votes,
      within,
    )

-- ---- the computed test for ascending replicas below n

-- at least a given replica, ascending, and below n
pub record Within (n least : ℕ) (votes : List CertVote) : Type 0 where
  pub from : All (λ v. least ≤ v.replica) votes
  pub rise : Rise votes
  pub below : All (λ v. v.replica < n) votes

pub within_shows : (n least : ℕ) (votes : List CertVote) → rise_below n least votes ≡ true → Within n least votes
within_shows n least [] holds = record {
  from = All-nil (λ v. least ≤ v.replica);
  rise = rise_none;
  below = All-nil (λ v. v.replica < n);
}
within_shows n least (v ∷ votes) holds =
    let parts = and_parts (is_within least n v.replica) (rise_below n (v.replica + 1) votes) holds in
    let here = and_parts (nat_le least v.replica) (nat_lt v.replica n) parts.0 in
    let from : least ≤ v.replica = leb-true least v.replica here.0 in
    let rest = within_shows n (v.replica + 1) votes parts.1 in
    record {
      from = All-cons (λ w. least ≤ w.replica) v votes from
          (All-weaker (λ w. v.replica + 1 ≤ w.replica) (λ w. least ≤ w.replica) (λ w above. (omega (arith, above, from))) votes rest.from);
      rise = rise_cons v votes
          (All-weaker (λ w. v.replica + 1 ≤ w.replica) (λ w. v.replica < w.replica) (λ w above. (omega (arith, above))) votes rest.from) rest.rise;
      below = All-cons (λ w. w.replica < n) v votes (ltb-true v.replica n here.1) rest.below;
    }

pub within_holds : (n least : ℕ) (votes : List CertVote) → Within n least votes → rise_below n least votes ≡ true
within_holds n least [] within = refl
within_holds n least (v ∷ votes) within =
    let from = All-head (λ w. least ≤ w.replica) v votes within.from in
    let below = All-head (λ w. w.replica < n) v votes within.below in
    let first = rise_first v votes within.rise in
    and_from (is_within least n v.replica) (rise_below n (v.replica + 1) votes)
    (and_from (nat_le least v.replica) (nat_lt v.replica n) (le-leb least v.replica from) (lt-ltb v.replica n below))
    (within_holds n (v.replica + 1) votes (record {
      from = All-weaker (λ w. v.replica < w.replica) (λ w. v.replica + 1 ≤ w.replica) (λ w above. (omega (arith, above))) votes first;
      rise = rise_rest v votes within.rise;
      below = All-tail (λ w. w.replica < n) v votes within.below;
    }))
