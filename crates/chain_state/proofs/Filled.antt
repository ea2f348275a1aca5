-- A list that is drawn up to its limit.
use Rattle.std.proofs.Common.{◌≡◌, ℕ, ◌≤◌, List, [], ◌∷◌, ◌++◌, length, take, drop, Bool, false, cond, refl, sym, ap, subst, ◌∙◌, arith}
use Rattle.std.specs.Prelude.{filter}
use Rattle.std.proofs.lemmas.List.{take-append-drop, take_at, take_all}
use Rattle.std.proofs.lemmas.List.Elements.{filter-append}
use Rattle.seq_base.specs.declared.tx.Tx.{Tx}

-- what is drawn from a prefix is all that there is room for
pub drawn_full : (wanted : Tx → Bool) (known drawn : List Tx) (i most : ℕ) → drawn ≡ filter wanted (take i known) → length drawn ≡ most
    → drawn ≡ take most (filter wanted known)
drawn_full wanted known drawn i most is long =
    let split : filter wanted known ≡ drawn ++ filter wanted (drop i known) =
    ap (filter wanted) (sym (take-append-drop i known)) ∙ filter-append wanted (take i known) (drop i known)
    ∙ ap (λ (prefix : List Tx). prefix ++ filter wanted (drop i known)) (sym is) in
    sym (ap (take most) split ∙ take_at drawn (filter wanted (drop i known)) most long)

-- what is drawn from all is all, where there is room
pub drawn_all : (wanted : Tx → Bool) (known drawn : List Tx) (i most : ℕ) → drawn ≡ filter wanted (take i known) → length drawn ≤ most
    → length known ≤ i → drawn ≡ take most (filter wanted known)
drawn_all wanted known drawn i most is few ends =
    let all : drawn ≡ filter wanted known = is ∙ ap (filter wanted) (take_all i known ends) in
    all ∙ sym (take_all most (filter wanted known) (subst (λ (xs : List Tx). length xs ≤ most) all few))

-- where nothing is wanted, nothing is drawn
pub drawn_none : (wanted : Tx → Bool) (known : List Tx) (most : ℕ) → ((t : Tx) → wanted t ≡ false) → [] ≡ take most (filter wanted known)
drawn_none wanted known most none = sym (ap (take most) (filtered known) ∙ take_all most [] (omega arith))
  where
    filtered : (xs : List Tx) → filter wanted xs ≡ []
    filtered [] = refl
    filtered (x ∷ xs) = ap (λ (b : Bool). cond b (x ∷ filter wanted xs) (filter wanted xs)) (none x) ∙ filtered xs
