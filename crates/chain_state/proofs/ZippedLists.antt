-- Lists zipped with their images, and members of lists of transactions.
use Rattle.std.proofs.Common.{◌≡◌, List, [], ◌∷◌, map, Bool, true, false, refl, ap, subst, inl, inr}
use Rattle.std.specs.Prelude.{◌||◌, zip}
use Rattle.std.specs.List.{list_any}
use Rattle.std.proofs.lemmas.Bool.{or_parts, or_cases, or_left, or_right, false≢true}
use Rattle.seq_base.specs.declared.tx.Tx.{Tx}
use Rattle.seq_base.specs.Lists.{holds}
use Rattle.seq_base.specs.Tx.{tx_eq, tx_eq_decides}

pub map_zip : {A B C : Type 0} (h : A × B → C) (f : A → B) (xs : List A) → map h (zip xs (map f xs)) ≡ map (λ x. h (x, f x)) xs
map_zip h f [] = refl
map_zip h f (x ∷ xs) = ap (λ ys. h (x, f x) ∷ ys) (map_zip h f xs)

pub any_zip : {A B : Type 0} (p : A × B → Bool) (f : A → B) (xs : List A) → list_any p (zip xs (map f xs)) ≡ list_any (λ x. p (x, f x)) xs
any_zip p f [] = refl
any_zip p f (x ∷ xs) = ap (λ rest. p (x, f x) || rest) (any_zip p f xs)

pub map_agree : {A B : Type 0} (f g : A → B) → ((x : A) → f x ≡ g x) → (xs : List A) → map f xs ≡ map g xs
map_agree f g same [] = refl
map_agree f g same (x ∷ xs) = rw (same x, map_agree f g same xs) refl

pub any_agree : {A : Type 0} (p q : A → Bool) → ((x : A) → p x ≡ q x) → (xs : List A) → list_any p xs ≡ list_any q xs
any_agree p q same [] = refl
any_agree p q same (x ∷ xs) = rw (same x, any_agree p q same xs) refl

pub eq_self : (t : Tx) → tx_eq t t ≡ true
eq_self t = (tx_eq_decides t t).1 refl

pub member_here : (t : Tx) (xs : List Tx) → holds t (t ∷ xs) ≡ true
member_here t xs = or_left (tx_eq t t) (holds t xs) (eq_self t)

-- two functions agree on the members
pub map_on : {B : Type 0} (f g : Tx → B) (xs : List Tx) → ((t : Tx) → holds t xs ≡ true → f t ≡ g t) → map f xs ≡ map g xs
map_on f g [] same = refl
map_on f g (x ∷ xs) same =
    rw (same x (member_here x xs), map_on f g xs (λ t member. same t (or_right (tx_eq x t) (holds t xs) member))) refl

-- no member passes
pub none_at : (p : Tx → Bool) (t : Tx) (xs : List Tx) → holds t xs ≡ true → list_any p xs ≡ false → p t ≡ false
none_at p t [] member none = absurd (false≢true member)
none_at p t (x ∷ xs) member none =
    let parts : (p x ≡ false) × (list_any p xs ≡ false) = or_parts (p x) (list_any p xs) none in
    elim (or_cases (tx_eq x t) (holds t xs) member) [
      | inl here ↦ subst (λ (y : Tx). p y ≡ false) ((tx_eq_decides x t).0 here) parts.0
      | inr following ↦ none_at p t xs following parts.1
    ]
