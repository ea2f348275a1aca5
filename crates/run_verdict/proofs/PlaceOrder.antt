-- Blocks that were received in the order of their places, and which of them are earlier.
use Rattle.std.proofs.Common.{◌≡◌, ◌⊎◌, List, [], ◌∷◌, ◌++◌, Bool, true, false, Some, None, refl, ap, arith, inl, inr}
use Rattle.std.specs.List.{find}
use Rattle.std.proofs.lemmas.Bool.{cases_Bool}
use Rattle.run_verdict.specs.Collided.{Received}
use Rattle.run_verdict.specs.Shown.{IsEarlier}

-- it is one of the list
abbrev pub Among : {X : Type 0} → X → List X → Type 0
Among x [] = ⊥
Among x (y ∷ ys) = (y ≡ x) ⊎ Among x ys

-- each is earlier than those after it
abbrev pub Rises : List Received → Type 0
Rises [] = Unit {0}
Rises (r ∷ rs) = ((x : Received) → Among x rs → IsEarlier r x) × Rises rs

pub among_either : {X : Type 0} (x : X) (xs ys : List X) → Among x (xs ++ ys) → Among x xs ⊎ Among x ys
among_either x [] ys within = inr within
among_either x (y ∷ rest) ys (inl is) = inl (inl is)
among_either x (y ∷ rest) ys (inr following) = elim (among_either x rest ys following) [
  | inl first ↦ inl (inr first)
  | inr second ↦ inr second
]

pub among_first : {X : Type 0} (x : X) (xs ys : List X) → Among x xs → Among x (xs ++ ys)
among_first x [] ys within = absurd within
among_first x (y ∷ rest) ys (inl is) = inl is
among_first x (y ∷ rest) ys (inr following) = inr (among_first x rest ys following)

pub among_second : {X : Type 0} (x : X) (xs ys : List X) → Among x ys → Among x (xs ++ ys)
among_second x [] ys within = within
among_second x (y ∷ rest) ys within = inr (among_second x rest ys within)

pub rises_joined : (xs ys : List Received) → Rises xs → Rises ys → ((x y : Received) → Among x xs → Among y ys → IsEarlier x y) → Rises (xs ++ ys)
rises_joined [] ys first second across = second
rises_joined (r ∷ rs) ys first second across = (
  (λ x within. elim (among_either x rs ys within) [
    | inl mine ↦ first.0 x mine
    | inr theirs ↦ across r x (inl refl) theirs
  ]),
  rises_joined rs ys first.1 second (λ x y mine theirs. across x y (inr mine) theirs),
)

pub not_both : (a b : Received) → IsEarlier a b → IsEarlier b a → ⊥
not_both a b (inl below) (inl above) = (omega arith)
not_both a b (inl below) (inr above) = (omega (arith, above.0))
not_both a b (inr below) (inl above) = (omega (arith, below.0))
not_both a b (inr below) (inr above) = (omega (arith, below.1, above.1))

module _ (first : List Received) (r : Received) (last : List Received) (rises : Rises (first ++ r ∷ last)) where
  -- what is after one is later
  pub later_after : (x : Received) → Among x last → IsEarlier r x
  later_after x within = following first rises
    where
      following : (before : List Received) → Rises (before ++ r ∷ last) → IsEarlier r x
      following [] rises = rises.0 x within
      following (y ∷ ys) rises = following ys rises.1

  -- what stands before one is earlier, and what is earlier stands before it
  pub earlier_before : (x : Received) → Among x first → IsEarlier x r
  earlier_before x within = before first rises within
    where
      before : (xs : List Received) → Rises (xs ++ r ∷ last) → Among x xs → IsEarlier x r
      before [] rises within = absurd within
      before (y ∷ ys) rises (inl is) = rw (← is) (rises.0 r (among_second r ys (r ∷ last) (inl refl)))
      before (y ∷ ys) rises (inr following) = before ys rises.1 following

  pub before_earlier : (x : Received) → Among x (first ++ r ∷ last) → IsEarlier x r → Among x first
  before_earlier x within earlier = elim (among_either x first (r ∷ last) within) [
    | inl mine ↦ mine
    | inr theirs ↦ elim theirs [
      | inl is ↦ let itself : IsEarlier x x = rw is at earlier in absurd (not_both x x itself itself)
      | inr following ↦ absurd (not_both x r earlier (later_after x following))
    ]
  ]

-- the first that passes: those before it fail
pub record FirstPass {X : Type 0} (p : X → Bool) (xs : List X) (x : X) : Type 0 where
  pub before : List X
  pub following : List X
  pub split : xs ≡ before ++ x ∷ following
  pub passes : p x ≡ true
  pub fail : (y : X) → Among y before → p y ≡ false

pub first_pass : {X : Type 0} (p : X → Bool) (xs : List X) (x : X) → find p xs ≡ Some x → FirstPass p xs x
first_pass p [] x found = cc
first_pass p (y ∷ ys) x found = elim (cases_Bool (p y)) [
  | inl passes ↦
      let same : y ≡ x = one (rw passes at found) in
      record { before = []; following = ys; split = ap (λ z. z ∷ ys) same; passes = rw (← same) passes; fail = λ z never. absurd never }
  | inr fails ↦
      let rest = first_pass p ys x (rw fails at found) in
      record {
        before = y ∷ rest.before;
        following = rest.following;
        split = ap (λ zs. y ∷ zs) rest.split;
        passes = rest.passes;
        fail = λ z within. elim within [
          | inl is ↦ rw (← is) fails
          | inr following ↦ rest.fail z following
        ];
      }
]
  where
    one : Some y ≡ Some x → y ≡ x
    one same = cc

pub none_pass : {X : Type 0} (p : X → Bool) (xs : List X) → find p xs ≡ None → (x : X) → Among x xs → p x ≡ false
none_pass p [] none x within = absurd within
none_pass p (y ∷ ys) none x within = elim (cases_Bool (p y)) [
  | inl passes ↦ let some : Some y ≡ None = rw passes at none in cc
  | inr fails ↦ elim within [
    | inl is ↦ rw (← is) fails
    | inr following ↦ none_pass p ys (rw fails at none) x following
  ]
]
