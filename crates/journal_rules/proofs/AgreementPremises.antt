-- A lawful journal satisfies the premises of the laws of agreement.
use Rattle.std.proofs.Common.{◌≡◌, ◌<◌, List, [], ◌∷◌, ◌++◌, length, map, get_or, true, refl, sym, ap, subst, inl, inr, arith}
use Rattle.std.specs.Prelude.{All}
use Rattle.std.specs.List.{AllPairs, filter_map}
use Rattle.std.proofs.lemmas.Bool.{cases_Bool}
use Rattle.agreement_laws.specs.Journals.{Ballot, Entry as Plain}
use Rattle.agreement_laws.specs.JournalPrefixes.{sealed_in as ballots_in}
use Rattle.agreement_laws.specs.Lawful.{IsLawfulVote, MayBeDone as MayBeDonePlainly, KeepsVotingRule as Agrees}
use Rattle.node_core.specs.declared.entry.Entry.{Entry}
use Rattle.node_core.specs.Delivered.{message_in}
use Rattle.journal_rules.specs.Rules.{Scale, Takes, IsVoteFor, IsLawful, lock_in, ballots_by}
use Rattle.journal_rules.specs.Shown.{is_done, shown, ballot_in}
use Rattle.journal_rules.proofs.Kept.{split_of_map, plainly, kept_of}

-- the last element of a nonempty list
last_of_some : {X : Type 0} (x : X) (xs : List X) → (before : List X) × (last : X) × (x ∷ xs ≡ before ++ last ∷ [])
last_of_some x [] = ([], x, refl)
last_of_some {X} x (y ∷ ys) = let rest = last_of_some y ys in (x ∷ rest.0, rest.1, ap (λ (zs : List X). x ∷ zs) rest.2)

-- an entry that keeps rules 2, 4 and 5
module _ (by : Scale) (before : List Entry) (e : Entry) (takes : Takes by before e) where
  is_lawful_vote : is_done e.turned.reason ≡ true → (v : Ballot) → IsVoteFor by before e v → (lock_in by.setting before).view < v.view
      → IsLawfulVote by.setting (map shown before) (shown e) v
  is_lawful_vote done v for above = record {
    done = done;
    block = for.block;
    delivered = for.delivered;
    digest = for.digest;
    own_view = for.view;
    valid = subst (MayBeDonePlainly by.setting (map shown before)) for.delivered (plainly by before (message_in e.event) (takes.done done));
    above_lock = above;
    rule = for.rule;
  }

  pub lawful_votes : All (IsVoteFor by before e) (ballots_by e) → All (λ v. (lock_in by.setting before).view < v.view) (ballots_by e)
      → All (IsLawfulVote by.setting (map shown before) (shown e)) (shown e).sealed
  lawful_votes votes above = elim (cases_Bool (is_done e.turned.reason)) [
    | inl done ↦ (λ k d inside. is_lawful_vote done (get_or (ballots_by e) k d) (votes k d inside) (above k d inside))
    | inr idle ↦
        (let none : ballots_by e ≡ [] = ap (filter_map ballot_in) (takes.idle idle).1 in
        λ k d inside. absurd (let few : k < 0 = subst (λ (vs : List Ballot). k < length vs) none inside in omega (arith, few)))
  ]

pub agrees_of : (by : Scale) (journal : List Entry) → IsLawful by journal → Agrees by.setting (map shown journal)
agrees_of by journal lawful = record {
  done = (kept_of by journal lawful).done;
  votes = λ firsts e others is.
      let r = split_of_map shown journal firsts e others is in
      subst (λ (z : Plain). All (IsLawfulVote by.setting firsts z) z.sealed) r.same
      (subst (λ (fs : List Plain). All (IsLawfulVote by.setting fs (shown r.item)) (shown r.item).sealed) r.first
      (lawful_votes by r.before r.item (lawful r.before r.item r.after r.is 2) (lawful r.before r.item r.after r.is 5)
      (lawful r.before r.item r.after r.is 4).above_lock));
  ascending = rise journal lawful;
}
  where
    rise : (entries : List Entry) → IsLawful by entries → AllPairs (λ earlier later. earlier.view < later.view) (ballots_in (map shown entries))
    rise [] lawful = λ i j d less inside. absurd (omega (arith, inside))
    rise (x ∷ xs) lawful =
        let last = last_of_some x xs in
        subst (λ (es : List Entry). AllPairs (λ earlier later. earlier.view < later.view) (ballots_in (map shown es))) (sym last.2)
        (lawful last.0 last.1 [] last.2 4).rise
