-- Rule 4, and that marks are different, tested from left to right.
use Rattle.std.proofs.Common.{◌≡◌, ◌≢◌, ℕ, ◌<◌, ◌≤◌, List, [], ◌∷◌, ◌++◌, length, get_or, true, ◌&&◌, refl, sym, subst, ◌∙◌, inl, inr, ◌⊎◌, arith, append_assoc}
use Rattle.std.specs.Prelude.{All, Contains, nat_lt, not, ◌↔◌}
use Rattle.std.specs.List.{AllPairs}
use Rattle.std.specs.Bool.{Decides}
use Rattle.std.proofs.lemmas.Bool.Decides.{Decides-and, Decides-not, Decides-ltb}
use Rattle.std.proofs.lemmas.Bool.{or_cases, or_left, or_right}
use Rattle.std.proofs.lemmas.List.{append-nil, get_or_append_left, length-append}
use Rattle.std.proofs.lemmas.List.Elements.{All-nil, All-cons, All-head, All-tail, All-append, All-weaker, Contains-append_left, Contains-append_right, Contains-append_cases}
use Rattle.agreement_laws.specs.Journals.{Ballot}
use Rattle.agreement_laws.proofs.Lists.{here, all_from, here_or_there, none_inside}
use Rattle.journal_rules.specs.Sealed.{Mark}
use Rattle.journal_rules.specs.Tests.{mark_eq}
use Rattle.journal_rules.proofs.Ends.{pairs_more, pairs_prefix}
use Rattle.journal_rules.proofs.RuleTests.{mark_decides}
use Rattle.audit_core.specs.Marking.{are_new}
use Rattle.audit_core.specs.Sets.{has_mark, with_mark}
use Rattle.audit_core.proofs.MarkSets.{one_mark_more}
use Rattle.audit_core.specs.Stands.{IsLast}
use Rattle.audit_core.specs.Voting.{rises_from}

module _ {X : Type 0} where
  -- the last element is related to all before it
  pub over_last : (R : X → X → Type 0) (xs : List X) (x : X) → AllPairs R (xs ++ x ∷ []) → All (λ y. R y x) xs
  over_last R xs x pairs k d inside =
      let last : get_or (xs ++ x ∷ []) (length xs) d ≡ x = seam xs d in
      subst (λ (y : X). R y x) (get_or_append_left xs (x ∷ []) d k inside)
      (subst (λ (y : X). R (get_or (xs ++ x ∷ []) k d) y) last (pairs k (length xs) d inside (omega (arith, length-append xs (x ∷ [])))))
    where
      seam : (xs : List X) (d : X) → get_or (xs ++ x ∷ []) (length xs) d ≡ x
      seam [] d = refl
      seam (y ∷ ys) d = seam ys d

  -- one more element
  pub pairs_split : (R : X → X → Type 0) (xs : List X) (x : X) (ys : List X) → AllPairs R (xs ++ x ∷ ys)
      → All (λ y. R y x) xs × AllPairs R ((xs ++ x ∷ []) ++ ys)
  pairs_split R xs x ys pairs =
      let moved : AllPairs R ((xs ++ x ∷ []) ++ ys) = subst (AllPairs R) (sym (append_assoc xs (x ∷ []) ys)) pairs in
      (over_last R xs x (pairs_prefix R (xs ++ x ∷ []) ys moved), moved)

-- ---- votes

abbrev Less : Ballot → Ballot → Type 0
Less earlier later = earlier.view < later.view

pub last_more : (voted : ℕ) (votes : List Ballot) (v : Ballot) → IsLast voted votes → voted < v.view → IsLast v.view (votes ++ v ∷ [])
last_more voted votes v is above = record {
  below = All-append (λ b. b.view ≤ v.view) votes
      (v ∷ []) (All-weaker (λ b. b.view ≤ voted) (λ b. b.view ≤ v.view) (λ b low. omega (arith, low, above)) votes is.below)
      (All-cons (λ b. b.view ≤ v.view) v [] (omega arith) (All-nil (λ b. b.view ≤ v.view)));
  last = inr (v, Contains-append_right votes (v ∷ []) v (here v []), refl);
}

pub rises_show : (lock voted : ℕ) (votes new : List Ballot) → IsLast voted votes → AllPairs Less votes
    → Decides (rises_from lock voted new) (AllPairs Less (votes ++ new) × All (λ v. lock < v.view) new)
rises_show lock voted votes [] is rise = ((λ yes. (subst (AllPairs Less) (sym (append-nil votes)) rise, All-nil (λ v. lock < v.view))), (λ h. refl))
rises_show lock voted votes (v ∷ new) is rise = (
  (λ yes. (let d = first.0 yes in let rest = (rises_show lock v.view (votes ++ v ∷ []) new (last_more voted votes v is d.0) (grown d.0)).0 d.1.1 in
      (subst (AllPairs Less) (append_assoc votes (v ∷ []) new) rest.0, All-cons (λ b. lock < b.view) v new d.1.0 rest.1))),
  (λ h.
      let parts = pairs_split Less votes v new h.0 in
      let low : lock < v.view = All-head (λ b. lock < b.view) v new h.1 in
      let above : voted < v.view = over is.last parts.0 low in
      first.1 (
        above,
        (
          low,
          (rises_show lock v.view (votes ++ v ∷ []) new (last_more voted votes v is above) (grown above)).1 (parts.1, All-tail (λ b. lock < b.view) v new h.1),
        ),
      )),
)
  where
    first : Decides (rises_from lock voted (v ∷ new)) ((voted < v.view) × ((lock < v.view) × (rises_from lock v.view new ≡ true)))
    first = Decides-and (nat_lt voted v.view) (nat_lt lock v.view && rises_from lock v.view new) (Decides-ltb voted v.view)
        (Decides-and (nat_lt lock v.view) (rises_from lock v.view new) (Decides-ltb lock v.view) ((λ x. x), (λ x. x)))

    grown : voted < v.view → AllPairs Less (votes ++ v ∷ [])
    grown above = pairs_more Less votes v rise (All-weaker (λ b. b.view ≤ voted) (λ b. Less b v) (λ b low. omega (arith, low, above)) votes is.below)

    over : (voted ≡ 0) ⊎ ((b : Ballot) × Contains votes b × (b.view ≡ voted)) → All (λ b. Less b v) votes → lock < v.view → voted < v.view
    over (inl none) all low = omega (arith, none, low)
    over (inr last) all low = (let less : last.0.view < v.view = inside votes last.0 last.1 all in omega (arith, less, last.2))
      where
        inside : (bs : List Ballot) (b : Ballot) → Contains bs b → All (λ x. Less x v) bs → Less b v
        inside [] b has all = absurd (none_inside b has)
        inside (x ∷ bs) b has all = elim (here_or_there x bs b has) [
          | inl same ↦ subst (λ (y : Ballot). Less y v) same (All-head (λ y. Less y v) x bs all)
          | inr rest ↦ inside bs b rest (All-tail (λ y. Less y v) x bs all)
        ]

pub first_rises : (lock voted : ℕ) (v : Ballot) (new : List Ballot) → rises_from lock voted (v ∷ new) ≡ true
    → (voted < v.view) × (rises_from lock v.view new ≡ true)
first_rises lock voted v new rises =
    let d = (Decides-and (nat_lt voted v.view) (nat_lt lock v.view && rises_from lock v.view new) (Decides-ltb voted v.view)
    (Decides-and (nat_lt lock v.view) (rises_from lock v.view new) (Decides-ltb lock v.view) ((λ x. x), (λ x. x)))).0 rises in
    (d.0, d.1.1)

-- ---- marks

-- one more mark
pub one_mark : (met : List (ℕ × ℕ)) (marks : List Mark) (m : Mark) → ((n : Mark) → (has_mark met n ≡ true) ↔ Contains marks n) → (n : Mark)
    → (has_mark (with_mark m met) n ≡ true) ↔ Contains (marks ++ m ∷ []) n
one_mark met marks m same n = (
  λ has. elim (or_cases (mark_eq m n) (has_mark met n) (sym (one_mark_more met m n) ∙ has)) [
    | inl is ↦ Contains-append_right marks (m ∷ []) n (subst (λ (y : Mark). Contains (m ∷ []) y) ((mark_decides m n).0 is) (here m []))
    | inr rest ↦ Contains-append_left marks (m ∷ []) n ((same n).0 rest)
  ],
  λ has. elim (Contains-append_cases marks (m ∷ []) n has) [
    | inl old ↦ one_mark_more met m n ∙ or_right (mark_eq m n) (has_mark met n) ((same n).1 old)
    | inr now ↦ elim (here_or_there m [] n now) [
      | inl is ↦ one_mark_more met m n ∙ or_left (mark_eq m n) (has_mark met n) ((mark_decides m n).1 is)
      | inr never ↦ absurd (none_inside n never)
    ]
  ],
)

pub marks_show : (met : List (ℕ × ℕ)) (marks new : List Mark) → ((m : Mark) → (has_mark met m ≡ true) ↔ Contains marks m) → AllPairs (λ a b. a ≢ b) marks
    → Decides (are_new met new) (AllPairs (λ a b. a ≢ b) (marks ++ new))
marks_show met marks [] same apart = ((λ yes. subst (AllPairs (λ a b. a ≢ b)) (sym (append-nil marks)) apart), (λ h. refl))
marks_show met marks (m ∷ new) same apart = (
  (λ yes. (let d = first.0 yes in subst (AllPairs (λ a b. a ≢ b)) (append_assoc marks (m ∷ []) new)
      ((marks_show (with_mark m met) (marks ++ m ∷ []) new (one_mark met marks m same) (grown d.0)).0 d.1))),
  (λ h.
      let parts = pairs_split (λ a b. a ≢ b) marks m new h in
      let out : has_mark met m ≡ true → ⊥ = λ has. apart_from marks ((same m).0 has) parts.0 in
      first.1 (out, (marks_show (with_mark m met) (marks ++ m ∷ []) new (one_mark met marks m same) (grown out)).1 parts.1)),
)
  where
    first : Decides (are_new met (m ∷ new)) ((has_mark met m ≡ true → ⊥) × (are_new (with_mark m met) new ≡ true))
    first = Decides-and (not (has_mark met m)) (are_new (with_mark m met) new) (Decides-not (has_mark met m) ((λ x. x), (λ x. x))) ((λ x. x), (λ x. x))

    apart_from : (xs : List Mark) → Contains xs m → All (λ y. y ≢ m) xs → ⊥
    apart_from [] has all = none_inside m has
    apart_from (x ∷ xs) has all = elim (here_or_there x xs m has) [
      | inl is ↦ All-head (λ y. y ≢ m) x xs all is
      | inr rest ↦ apart_from xs rest (All-tail (λ y. y ≢ m) x xs all)
    ]

    grown : (has_mark met m ≡ true → ⊥) → AllPairs (λ a b. a ≢ b) (marks ++ m ∷ [])
    grown out = pairs_more (λ a b. a ≢ b) marks m apart
        (all_from (λ y. y ≢ m) marks (λ y has is. out ((same m).1 (subst (λ (z : Mark). Contains marks z) is has))))
