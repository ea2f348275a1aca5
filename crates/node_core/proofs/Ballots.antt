-- A vote that takes effect changes something: it is kept in its ballot, or it completes a certificate of a higher view.
use Rattle.std.proofs.Common.{◌≡◌, ℕ, ◌<◌, ◌≤◌, [], ◌∷◌, ◌++◌, length, get_or, Bool, true, false, ◌||◌, ◌&&◌, nat_eq, nat_lt, Option, Some, None, refl, sym, ap, subst, ◌∙◌, arith, inl, inr}
use Rattle.std.specs.Prelude.{insert}
use Rattle.std.specs.List.{list_any}
use Rattle.std.specs.Option.{option_map, option_map_or}
use Rattle.std.proofs.lemmas.Bool.{cases_Bool, and_from, both_ways}
use Rattle.std.proofs.lemmas.Bool.Decides.{nat_tests}
use Rattle.std.proofs.lemmas.List.Edits.{length-insert, get_or-insert_at}
use Rattle.std.proofs.lemmas.List.Elements.{All-get_or}
use Rattle.std.proofs.lemmas.List.Folds.{list_any-append, list_any_at}
use Rattle.std.proofs.lemmas.List.Quantifiers.{position-Some}
use Rattle.std.proofs.lemmas.List.Sums.{count_by-le-length}
use Rattle.seq_base.specs.declared.digest.Digest.{Digest}
use Rattle.seq_base.specs.declared.block.Cert.{Cert}
use Rattle.seq_base.specs.declared.block.CertVote.{CertVote}
use Rattle.seq_base.specs.declared.block.Vote.{Vote}
use Rattle.seq_base.specs.declared.order.SealedOrder.{SealedOrder}
use Rattle.seq_base.specs.Blocks.{digest_eq_decides}
use Rattle.quorum_cert.specs.Boxes.{Box, has_vote, is_again, keep_answer, kept_in, place_in, wants_more, bare}
use Rattle.node_core.specs.declared.state.votes.Formed.{Formed}
use Rattle.node_core.specs.State.{Known, State, Ballot, knowing}
use Rattle.node_core.specs.See.{seen}
use Rattle.node_core.specs.Reported.{Gives, everyone}
use Rattle.node_core.specs.Order.{proposal}
use Rattle.node_core.specs.Vote.{is_for, has_voted, place_of, empty_ballot, ballot_of, others, formed_votes, formed, keeping, next_block, proposing_next, certified, certified_if, vote_done}
use Rattle.node_core.specs.Vote as voting
use Rattle.node_core.specs.Idle.{NoneFormed, Changes}
use Rattle.node_core.proofs.Effects.{Differ, changed, if_changed, sealed_changed}

same_number : (a : ℕ) → nat_eq a a ≡ true
same_number a = grind (arith, nat_tests)

-- ---- the ballot of a block in a view

record IsOpen (v : ℕ) (d : Digest) (replica : ℕ) (b : Ballot) : Type 0 where
  for : is_for v d b ≡ true
  unformed : b.votes.formed ≡ false
  new : has_vote b.votes.votes replica ≡ false

open_ballot : (s : Known) (v : ℕ) (d : Digest) (replica : ℕ) → NoneFormed s → has_voted s.boxes v d replica ≡ false → IsOpen v d replica (ballot_of s v d)
open_ballot s v d replica none new = by (place_of v d s.boxes) refl
  where
    empty : Ballot
    empty = empty_ballot s.setting v d

    at_place : (at : ℕ) → place_of v d s.boxes ≡ Some at → IsOpen v d replica (get_or s.boxes at empty)
    at_place at is =
        let b : Ballot = get_or s.boxes at empty in
        let found = position-Some (is_for v d) s.boxes at empty is in
        record {
          for = found.1;
          unformed = All-get_or (λ (x : Ballot). x.votes.formed ≡ false) s.boxes at empty found.0 none;
          new = elim (cases_Bool (has_vote b.votes.votes replica)) [
            | inl has ↦ absurd (both_ways (has_voted s.boxes v d replica) new
                (list_any_at (λ (x : Ballot). is_for v d x && has_vote x.votes.votes replica) s.boxes at empty found.0 (and_from _ _ found.1 has)))
            | inr lacks ↦ lacks
          ];
        }

    by : (place : Option ℕ) → place_of v d s.boxes ≡ place → IsOpen v d replica (option_map_or (λ at. get_or s.boxes at empty) place empty)
    by None is = record { for = and_from _ _ (same_number v) ((digest_eq_decides d d).1 refl); unformed = refl; new = refl }
    by (Some at) is = at_place at is

-- ---- the ballot with the vote

-- If the vote completes no certificate, it is kept.
kept : (box : Box) (vote : CertVote) → is_again box vote.replica ≡ false → formed_votes (keep_answer box vote) ≡ None
    → has_vote (kept_in box vote).votes vote.replica ≡ true
kept box vote new none = elim (cases_Bool (wants_more box vote)) [
  | inl wants ↦ rw (new, wants) (
      let votes = box.votes in
      let place : ℕ = place_in votes vote.replica in
      let below : place ≤ length votes = count_by-le-length _ votes in
      list_any_at (λ (v : CertVote). nat_eq v.replica vote.replica) (insert votes place vote) place vote
      (omega (arith, below, length-insert votes place vote below))
      (rw (get_or-insert_at votes place vote vote below) (same_number vote.replica)))
  | inr full ↦ absurd (let e = rw (new, full) at none in cc)
]

-- ---- what a certificate changes

seen_high : (cert : Cert) (s : Known) → s.high.view < cert.view → (seen cert s).high ≡ cert
seen_high cert s higher = let less : nat_lt s.high.view cert.view ≡ true = grind (arith, nat_tests, higher) in rw less refl

higher : (s t : State) (cert : Cert) → s.known.high.view < cert.view → t.known.high ≡ cert → Differ s t
higher s t cert above is none same =
    let view : cert.view ≡ s.known.high.view = ap (λ (c : Cert). c.view) (sym is ∙ ap (λ (k : Known). k.high) same) in
    omega (arith, view, above)

certified_changes : (s t : State) (gives : Gives) (f : Formed) → t.known.high ≡ s.known.high → s.known.high.view < f.cert.view → Changes s (certified gives t f)
unfolding certified
certified_changes s t gives f same above =
    let after : State = knowing t (seen f.cert t.known) in
    let next : State = knowing after (proposing_next f.cert after.known) in
    let below : t.known.high.view < f.cert.view = subst (λ (c : Cert). c.view < f.cert.view) (sym same) above in
    let high : after.known.high ≡ f.cert = seen_high f.cert t.known below in
    if_changed s (nat_eq f.cert.view after.known.views) _ _ (changed s after _ refl refl (higher s after f.cert above high))
    (sealed_changed s next gives (proposal next.known.me (next_block f)) (everyone next.known) (higher s next f.cert above high))

-- ---- a vote

module _ (s : State) (vote : Vote) (order : Option SealedOrder) where
  abbrev result : Option Formed
  result = formed s.known vote.view vote.block (bare vote) order

  abbrev after : State
  after = knowing s (keeping s.known vote.view vote.block (bare vote) order)

  -- It is kept in its ballot.
  noted : has_voted s.known.boxes vote.view vote.block vote.replica ≡ false → result ≡ None → Differ s after
  unfolding formed keeping
  noted new none unformed same =
      let v : ℕ = vote.view in
      let d : Digest = vote.block in
      let ballot : Ballot = ballot_of s.known v d in
      let next : Ballot = voting.with_vote (bare vote) order ballot in
      let holds : Ballot → Bool = λ (b : Ballot). is_for v d b && has_vote b.votes.votes vote.replica in
      let is = open_ballot s.known v d vote.replica unformed new in
      let none_formed : formed_votes (keep_answer ballot.votes (bare vote)) ≡ None = none_mapped _ _ none in
      let again : is_again ballot.votes vote.replica ≡ false = rw is.unformed is.new in
      let has : holds next ≡ true = and_from _ _ is.for (kept ballot.votes (bare vote) again none_formed) in
      let boxes : others v d s.known.boxes ++ next ∷ [] ≡ s.known.boxes =
      subst (λ (f : Option Formed). voting.boxes_with f (others v d s.known.boxes) next ≡ s.known.boxes) none
      (ap (λ (k : Known). k.boxes) same) in
      let voted : list_any holds (others v d s.known.boxes ++ next ∷ []) ≡ true = list_any-append holds (others v d s.known.boxes) (next ∷ [])
      ∙ at_end (list_any holds (others v d s.known.boxes)) (holds next) has in
      both_ways (has_voted s.known.boxes v d vote.replica) new (rw boxes at voted)
    where
      none_mapped : {A B : Type 0} (f : A → B) (x : Option A) → option_map f x ≡ None → x ≡ None
      none_mapped f None e = refl
      none_mapped f (Some a) e = absurd (cc)

      at_end : (a b : Bool) → b ≡ true → (a || (b || false)) ≡ true
      at_end true b e = refl
      at_end false true e = refl
      at_end false false e = e

  formed_view : (f : Formed) → result ≡ Some f → f.cert.view ≡ vote.view
  unfolding formed
  formed_view f is = of_some _ (formed_votes (keep_answer (ballot_of s.known vote.view vote.block).votes (bare vote))) (λ votes. refl) is
    where
      of_some : {A : Type 0} (make : A → Formed) (x : Option A) → ((a : A) → (make a).cert.view ≡ vote.view) → option_map make x ≡ Some f
          → f.cert.view ≡ vote.view
      of_some make None all e = absurd (cc)
      of_some make (Some a) all e =
          let same : make a ≡ f = cc in
          subst (λ (g : Formed). g.cert.view ≡ vote.view) same (all a)

  same_high : after.known.high ≡ s.known.high
  unfolding keeping
  same_high = refl

pub vote_changes : (s : State) (gives : Gives) (vote : Vote) (order : Option SealedOrder) → s.known.high.view < vote.view
    → has_voted s.known.boxes vote.view vote.block vote.replica ≡ false → Changes s (vote_done gives s vote order)
unfolding vote_done
vote_changes s gives vote order above new = by (result s vote order) refl
  where
    by : (f : Option Formed) → result s vote order ≡ f → Changes s (certified_if gives (after s vote order) f)
    by None is = changed s (after s vote order) _ refl refl (noted s vote order new is)
    by (Some f) is = certified_changes s (after s vote order) gives f (same_high s vote order)
        (subst (λ (n : ℕ). s.known.high.view < n) (sym (formed_view s vote order f is)) above)
