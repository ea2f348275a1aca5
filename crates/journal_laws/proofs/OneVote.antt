-- One more vote, in the state and in the prefix.
use Rattle.std.proofs.Common.{◌≡◌, ℕ, ◌+◌, ◌<◌, ◌≤◌, List, [], ◌∷◌, ◌++◌, length, Bool, true, false, Option, Some, None, nat_lt, nat_le, refl, sym, ap, subst, ◌∙◌, inl, inr, ◌⊎◌, arith, ◌||◌, ◌&&◌, ◌==◌, if◌then◌else◌}
use Rattle.std.specs.Prelude.{find, not}
use Rattle.std.specs.Option.{option_map}
use Rattle.std.proofs.lemmas.Bool.{and_parts, cases_Bool, eqb-true, le-leb, leb-true, ltb-false, ltb-true}
use Rattle.std.proofs.lemmas.Bool.Decides.{nat_tests}
use Rattle.std.proofs.lemmas.List.Elements.{All-nil, All-cons, All-append}
use Rattle.std.proofs.lemmas.List.Edits.{length-insert}
use Rattle.std.proofs.lemmas.List.Sums.{count_by-le-length}
use Rattle.seq_base.specs.declared.digest.Digest.{Digest}
use Rattle.seq_base.specs.declared.block.CertVote.{CertVote}
use Rattle.seq_base.specs.declared.order.SealedOrder.{SealedOrder}
use Rattle.seq_base.specs.Blocks.{digest_eq}
use Rattle.seq_base.specs.Setting.{Parameters, quorum_of}
use Rattle.quorum_cert.specs.declared.vote_box.Took.TheVariants as Took
use Rattle.quorum_cert.specs.Boxes.{cert_with, has_vote, place_in, with_vote as with_cert_vote}
use Rattle.agreement_laws.specs.Journals.{Entry as Shown}
use Rattle.agreement_laws.specs.JournalPrefixes.{voter_by, voters, completed}
use Rattle.agreement_laws.proofs.Digests.{same_true, true_same}
use Rattle.node_core.specs.State.{Known, Ballot}
use Rattle.node_core.specs.declared.state.votes.Formed.{Formed}
use Rattle.node_core.specs.Vote.{is_for, has_voted, empty_ballot, ballot_of, others, with_carried, with_vote, formed_votes, formed, boxes_with}
use Rattle.journal_laws.proofs.Firsts.{without_first, first_at, others_at, find_others, any_inserted}
use Rattle.journal_rules.proofs.Voters.{IsOneMore, voters_more, voters_same}
use Rattle.journal_laws.proofs.Votes.{AreVotes, IsOpen, VotesTied, apart_others, box_for, box_key, box_open, box_unvoted, find_last, find_own, last_other, last_own, open_others, other_key}

others_are : (known : Known) (v : ℕ) (d : Digest) → others v d known.boxes ≡ without_first (is_for v d) known.boxes
others_are known v d = others_at (is_for v d) known.boxes

ballot_is : (known : Known) (v : ℕ) (d : Digest) → ballot_of known v d ≡ box_for known.setting v d known.boxes
ballot_is known v d = first_at (is_for v d) known.boxes (empty_ballot known.setting v d)

with_vote_counts : (w : CertVote) (votes : List CertVote) → length (with_cert_vote w votes) ≡ length votes + 1
with_vote_counts w votes = length-insert votes (place_in votes w.replica) w (count_by-le-length (λ (x : CertVote). nat_lt x.replica w.replica) votes)

votes_more : (r : ℕ) (old new : List ℕ) (w : CertVote) (votes : List CertVote) → w.replica ≡ r → AreVotes old votes → IsOneMore r old new
    → AreVotes new (with_cert_vote w votes)
votes_more r old new w votes own are more = record {
  count = omega (arith, more.one, are.count, with_vote_counts w votes);
  among = λ q. more.among q ∙ ap (λ (t : Bool). (r == q) || t) (are.among q)
      ∙ rw (← own) (sym (any_inserted (λ (x : CertVote). x.replica == q) votes (place_in votes w.replica) w));
}

-- votes of a quorum, counted in the journal or in the box
completes : (s : Parameters) (d : Digest) (voters : List ℕ) (count : ℕ) → length voters ≡ count
    → completed s d voters ≡ (if nat_lt count (quorum_of s) then None else Some d)
completes s d voters count is = elim (cases_Bool (nat_lt count (quorum_of s))) [
  | inl fewer ↦
      rw (fewer, less_le (quorum_of s) (length voters) (let below : count < quorum_of s = ltb-true count (quorum_of s) fewer in omega (arith, is, below)))
  | inr enough ↦
      rw (enough, le-leb (quorum_of s) (length voters) (let above : quorum_of s ≤ count = ltb-false count (quorum_of s) enough in omega (arith, is, above)))
]
  where
    less_le : (q n : ℕ) → n < q → nat_le q n ≡ false
    less_le q n below = elim (cases_Bool (nat_le q n)) [
      | inl is ↦ let within : q ≤ n = leb-true q n is in absurd (omega (arith, below, within))
      | inr not ↦ not
    ]

-- The effect of an accepted vote, in the state and in the prefix: it completes no certificate in either, or the same
-- one
pub record IsKeptVote (known : Known) (v : ℕ) (d : Digest) (w : CertVote) (order : Option SealedOrder) (prior : List Shown) : Type 0 where
  pub none : formed known v d w order ≡ None
  pub untaken : completed known.setting d (voters v d prior) ≡ None
  pub tied : VotesTied known.setting known.high.view
      (boxes_with (formed known v d w order) (others v d known.boxes) (with_vote w order (ballot_of known v d))) prior

pub record IsCertified (known : Known) (v : ℕ) (d : Digest) (w : CertVote) (order : Option SealedOrder) (prior : List Shown) : Type 0 where
  pub made : Formed
  pub some : formed known v d w order ≡ Some made
  pub view : made.cert.view ≡ v
  pub block : made.cert.block ≡ d
  pub taken : completed known.setting d (voters v d prior) ≡ Some d
  pub tied : VotesTied known.setting v (boxes_with (formed known v d w order) (others v d known.boxes) (with_vote w order (ballot_of known v d))) prior

module _ (known : Known) (v : ℕ) (d : Digest) (w : CertVote) (order : Option SealedOrder) (prior : List Shown) (e : Shown)
    (tied : VotesTied known.setting known.high.view known.boxes prior) (over : known.high.view < v) (new : has_voted known.boxes v d w.replica ≡ false)
    (is_vote : (x : ℕ) (c : Digest) → voter_by x c e ≡ (if (v == x) && digest_eq d c then Some w.replica else None)) where
  abbrev box : Ballot
  box = box_for known.setting v d known.boxes

  abbrev rest : List Ballot
  rest = without_first (is_for v d) known.boxes

  votes : AreVotes (voters v d prior) box.votes.votes
  votes = tied.same v d over

  unvoted : has_vote box.votes.votes w.replica ≡ false
  unvoted = box_unvoted known.setting v d w.replica known.boxes new

  is_open : IsOpen known.setting box
  is_open = box_open known.setting v d known.boxes tied.open_boxes

  own_vote : voter_by v d e ≡ Some w.replica
  own_vote = is_vote v d ∙ (let one : (v == v) ≡ true = grind (arith, nat_tests) in rw (one, true_same d d refl) refl)

  more : IsOneMore w.replica (voters v d prior) (voters v d (prior ++ e ∷ []))
  more = voters_more v d prior e w.replica own_vote (votes.among w.replica ∙ unvoted)

  now : AreVotes (voters v d (prior ++ e ∷ [])) (with_cert_vote w box.votes.votes)
  now = votes_more w.replica (voters v d prior) (voters v d (prior ++ e ∷ [])) w box.votes.votes refl votes more

  another : (x : ℕ) (c : Digest) → ((v == x) && digest_eq d c) ≡ false → voters x c (prior ++ e ∷ []) ≡ voters x c prior
  another x c not = voters_same x c prior e (is_vote x c ∙ rw not refl)

  differ : (x : ℕ) (c : Digest) → ((v == x) && digest_eq d c) ≡ false → v ≡ x → d ≡ c → ⊥
  differ x c not one two =
      let views : (v == x) ≡ true = grind (arith, nat_tests) in
      let never : true ≡ false = sym (rw (views, true_same d c two) refl) ∙ not in
      absurd (cc)

  abbrev put : Ballot
  put =
      record {
        view = box.view;
        block = box.block;
        votes = record box.votes { votes = with_cert_vote w box.votes.votes };
        orders = with_carried order box.orders;
      }

  own_key : is_for v d put ≡ true
  own_key = box_key known.setting v d known.boxes

  put_other : (x : ℕ) (c : Digest) → ((v == x) && digest_eq d c) ≡ false → is_for x c put ≡ false
  put_other x c not = other_key v x d c (differ x c not) put own_key

  rest_other : (x : ℕ) (c : Digest) → ((v == x) && digest_eq d c) ≡ false → find (is_for x c) rest ≡ find (is_for x c) known.boxes
  rest_other x c not = find_others (is_for v d) (is_for x c) known.boxes (λ b is. other_key v x d c (differ x c not) b is)

  -- still incomplete, with this vote
  kept_ties : VotesTied known.setting known.high.view (rest ++ put ∷ []) (prior ++ e ∷ [])
  kept_ties = record {
    open_boxes = All-append (IsOpen known.setting) rest (put ∷ []) (open_others known.setting (is_for v d) known.boxes tied.open_boxes)
        (All-cons (IsOpen known.setting) put [] (record { formed = is_open.formed; setting = is_open.setting }) (All-nil (IsOpen known.setting)));
    apart = λ x c. elim (cases_Bool ((v == x) && digest_eq d c)) [
      | inl is ↦
          let parts = and_parts (v == x) (digest_eq d c) is in
          let same_view : v ≡ x = eqb-true v x parts.0 in
          rw (← same_view, ← same_true d c parts.1, last_own v d rest put (tied.apart v d) own_key) (tied.apart v d)
      | inr not ↦
          rw (last_other v d (is_for x c) rest put (put_other x c not), find_last v d (is_for x c) (without_first (is_for x c) rest) put (put_other x c not))
          (apart_others v d known.boxes tied.apart x c)
    ];
    same = λ x c above. elim (cases_Bool ((v == x) && digest_eq d c)) [
      | inl is ↦
          let parts = and_parts (v == x) (digest_eq d c) is in
          let same_view : v ≡ x = eqb-true v x parts.0 in
          rw (← same_view, ← same_true d c parts.1, find_own v d rest put (tied.apart v d) own_key) now
      | inr not ↦ rw (another x c not, find_last v d (is_for x c) rest put (put_other x c not), rest_other x c not) (tied.same x c above)
    ];
  }

  -- complete: no view up to this one has votes any more
  complete_ties : VotesTied known.setting v rest (prior ++ e ∷ [])
  complete_ties = record {
    open_boxes = open_others known.setting (is_for v d) known.boxes tied.open_boxes;
    apart = apart_others v d known.boxes tied.apart;
    same = λ x c above. (
        let not : ((v == x) && digest_eq d c) ≡ false = (let views : (v == x) ≡ false = grind (arith, nat_tests, above) in rw views refl) in
        rw (another x c not, rest_other x c not) (tied.same x c (omega (arith, over, above))));
  }

  wants : nat_lt (length (with_cert_vote w box.votes.votes)) (quorum_of box.votes.setting)
      ≡ nat_lt (length (with_cert_vote w box.votes.votes)) (quorum_of known.setting)
  wants = ap (λ (s : Parameters). nat_lt (length (with_cert_vote w box.votes.votes)) (quorum_of s)) is_open.setting

  abbrev few : Bool
  few = nat_lt (length (with_cert_vote w box.votes.votes)) (quorum_of known.setting)

  abbrev whole : Formed
  whole = record { cert = record { view = v; block = d; votes = with_cert_vote w box.votes.votes }; orders = with_carried order box.orders }

  formed_is : formed known v d w order ≡ (if few then None else Some whole)
  unfolding formed
  formed_is = rw (ballot_is known v d, is_open.formed, unvoted, wants) (by few)
    where
      by : (t : Bool) → option_map (λ votes. record { cert = record { view = v; block = d; votes = votes }; orders = with_carried order box.orders })
          (formed_votes (if t then Took.Kept else Took.Formed (cert_with box.votes w))) ≡ (if t then None else Some whole)
      by true = refl
      by false = refl

  put_is : few ≡ true → with_vote w order (ballot_of known v d) ≡ put
  put_is more = rw (ballot_is known v d, is_open.formed, unvoted, wants, more) refl

  boxes_are : (t : Bool) → few ≡ t → boxes_with (formed known v d w order) (others v d known.boxes) (with_vote w order (ballot_of known v d))
      ≡ (if t then rest ++ put ∷ [] else rest)
  boxes_are true is = rw (formed_is, is, others_are known v d, put_is is) refl
  boxes_are false is = rw (formed_is, is, others_are known v d) refl

  counted : completed known.setting d (voters v d (prior ++ e ∷ [])) ≡ (if few then None else Some d)
  counted = completes known.setting d (voters v d (prior ++ e ∷ [])) (length (with_cert_vote w box.votes.votes)) now.count

  pub vote_ties : IsKeptVote known v d w order (prior ++ e ∷ []) ⊎ IsCertified known v d w order (prior ++ e ∷ [])
  vote_ties = by few refl
    where
      by : (t : Bool) → few ≡ t → IsKeptVote known v d w order (prior ++ e ∷ []) ⊎ IsCertified known v d w order (prior ++ e ∷ [])
      by true is = inl (record {
        none = formed_is ∙ rw is refl;
        untaken = counted ∙ rw is refl;
        tied = subst (λ (boxes : List Ballot). VotesTied known.setting known.high.view boxes (prior ++ e ∷ [])) (sym (boxes_are true is)) kept_ties;
      })
      by false is = inr (record {
        made = whole;
        some = formed_is ∙ rw is refl;
        view = refl;
        block = refl;
        taken = counted ∙ rw is refl;
        tied = subst (λ (boxes : List Ballot). VotesTied known.setting v boxes (prior ++ e ∷ [])) (sym (boxes_are false is)) complete_ties;
      })
