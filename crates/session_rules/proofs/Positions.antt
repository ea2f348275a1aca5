-- The first transaction of a list that passes a test.
use Rattle.std.proofs.Common.{◌≡◌, ℕ, ◌+◌, ◌≤◌, List, [], ◌∷◌, length, cond, Bool, true, false, not, Some, None, refl, sym, ap, ◌∙◌, arith, inl, inr}
use Rattle.std.specs.Prelude.{nat_lt, position}
use Rattle.std.specs.List.{position_or_len}
use Rattle.std.proofs.lemmas.Bool.{cases_Bool, false≢true, or_cases, or_left, or_right}
use Rattle.std.proofs.lemmas.Bool.Decides.{nat_tests}
use Rattle.std.proofs.lemmas.Option.{none-some}
use Rattle.seq_base.specs.declared.tx.Tx.{Tx}
use Rattle.seq_base.specs.Lists.{holds}
use Rattle.seq_base.specs.Tx.{tx_eq, tx_eq_decides}

-- how many elements come before the first that passes a test, or before the end
abbrev far : (Tx → Bool) → List Tx → ℕ
far p xs = position_or_len p xs

-- where no element passes a test, the search has come to the end
at_end : (p : Tx → Bool) (xs : List Tx) → position p xs ≡ None → length xs ≤ far p xs
at_end p xs none = elim (cases_Bool (nat_lt (far p xs) (length xs))) [
  | inl less ↦ absurd (none-some (far p xs) (sym none ∙ ap (λ (b : Bool). cond b (Some (far p xs)) None) less))
  | inr not_less ↦ grind (arith, nat_tests, not_less)
]

passed_all : (p : Tx → Bool) (xs : List Tx) (t : Tx) → length xs ≤ far p xs → holds t xs ≡ true → p t ≡ false
passed_all p [] t far_off held = absurd (false≢true held)
passed_all p (x ∷ xs) t far_off held =
    let here : Bool → ℕ = λ b. cond (not b) (1 + far p xs) 0 in
    elim (cases_Bool (p x)) [
      | inl passes ↦
          let none : far p (x ∷ xs) ≡ 0 = ap here passes in
          absurd (omega (arith, far_off, none))
      | inr fails ↦
          let more : far p (x ∷ xs) ≡ 1 + far p xs = ap here fails in
          elim (or_cases (tx_eq x t) (holds t xs) held) [
            | inl same ↦ ap p (sym ((tx_eq_decides x t).0 same)) ∙ fails
            | inr later ↦ passed_all p xs t (omega (arith, far_off, more)) later
          ]
    ]

-- what is in a list of which no element passes a test does not pass it
pub none_passes : (p : Tx → Bool) (xs : List Tx) (t : Tx) → position p xs ≡ None → holds t xs ≡ true → p t ≡ false
none_passes p xs t none held = passed_all p xs t (at_end p xs none) held

none_far : (p : Tx → Bool) (xs : List Tx) → ((t : Tx) → holds t xs ≡ true → p t ≡ false) → far p xs ≡ length xs
none_far p [] fails = refl
none_far p (x ∷ xs) fails =
    let here : far p (x ∷ xs) ≡ 1 + far p xs =
    ap (λ (b : Bool). cond (not b) (1 + far p xs) 0) (fails x (or_left (tx_eq x x) (holds x xs) ((tx_eq_decides x x).1 refl))) in
    let rest : far p xs ≡ length xs = none_far p xs (λ t held. fails t (or_right (tx_eq x t) (holds t xs) held)) in
    omega (arith, here, rest)

pub none_if : (p : Tx → Bool) (xs : List Tx) → ((t : Tx) → holds t xs ≡ true → p t ≡ false) → position p xs ≡ None
none_if p xs fails =
    let not_less : nat_lt (far p xs) (length xs) ≡ false = grind (arith, nat_tests, none_far p xs fails) in
    ap (λ (b : Bool). cond b (Some (far p xs)) None) not_less

far_alike : (p q : Tx → Bool) → ((t : Tx) → p t ≡ q t) → (xs : List Tx) → far p xs ≡ far q xs
far_alike p q same [] = refl
far_alike p q same (x ∷ xs) =
    ap (λ (b : Bool). cond (not b) (1 + far p xs) 0) (same x) ∙ ap (λ (n : ℕ). cond (not (q x)) (1 + n) 0) (far_alike p q same xs)

pub position_alike : (p q : Tx → Bool) → ((t : Tx) → p t ≡ q t) → (xs : List Tx) → position p xs ≡ position q xs
position_alike p q same xs = ap (λ (n : ℕ). cond (nat_lt n (length xs)) (Some n) None) (far_alike p q same xs)
