-- Items of lists at places, and what holds of each item.
use Rattle.std.proofs.Common.{◌≡◌, ℕ, zero, suc, ◌<◌, List, [], ◌∷◌, ◌++◌, length, map, Bool, true, Some, refl, sym, ap, ◌∙◌, arith}
use Rattle.std.specs.Prelude.{slice_get, slice_set}
use Rattle.std.specs.List.{AllByRecursion as Each, list_all}

-- ---- at places

pub get_prefix : {X : Type 0} (xs ys : List X) (k : ℕ) → k < length xs → slice_get (xs ++ ys) k ≡ slice_get xs k
get_prefix [] ys k inside = absurd (omega (arith, inside))
get_prefix (x ∷ xs) ys zero inside = refl
get_prefix (x ∷ xs) ys (suc k) inside = get_prefix xs ys k (omega (arith, inside))

pub get_mid : {X : Type 0} (xs : List X) (x : X) (more : List X) → slice_get ((xs ++ x ∷ []) ++ more) (length xs) ≡ Some x
get_mid [] x more = refl
get_mid (y ∷ xs) x more = get_mid xs x more

pub get_last : {X : Type 0} (xs : List X) (x : X) → slice_get (xs ++ x ∷ []) (length xs) ≡ Some x
get_last [] x = refl
get_last (y ∷ xs) x = get_last xs x

-- an item of a list with one more at its end
pub get_more : {X : Type 0} (xs : List X) (x y : X) (k : ℕ) (P : Type 0) → slice_get (xs ++ x ∷ []) k ≡ Some y
    → (slice_get xs k ≡ Some y → P) → (k ≡ length xs → x ≡ y → P) → P
get_more [] x y zero P found prefix last = last refl (let same : x ≡ y = cc in same)
get_more [] x y (suc k) P found prefix last = absurd (cc)
get_more (z ∷ xs) x y zero P found prefix last = prefix found
get_more (z ∷ xs) x y (suc k) P found prefix last = get_more xs x y k P found prefix (λ is same. last (ap suc is) same)

pub got_map : {X Y : Type 0} (f : X → Y) (xs : List X) (k : ℕ) (y : Y) → slice_get (map f xs) k ≡ Some y → (x : X) × (slice_get xs k ≡ Some x) × (f x ≡ y)
got_map f [] k y found = absurd (cc)
got_map f (x ∷ xs) zero y found = (x, refl, (let same : f x ≡ y = cc in same))
got_map f (x ∷ xs) (suc k) y found = got_map f xs k y found

pub set_same : {X : Type 0} (xs : List X) (i : ℕ) (x : X) → slice_get xs i ≡ Some x → slice_set xs i x ≡ xs
set_same [] i x found = refl
set_same (z ∷ xs) zero x found = (let same : z ≡ x = cc in ap (λ y. y ∷ xs) (sym same))
set_same (z ∷ xs) (suc i) x found = ap (λ ys. z ∷ ys) (set_same xs i x found)

pub same_lists : {X : Type 0} (xs ys : List X) → length xs ≡ length ys
    → ((k : ℕ) (x y : X) → slice_get xs k ≡ Some x → slice_get ys k ≡ Some y → x ≡ y) → xs ≡ ys
same_lists [] [] many each = refl
same_lists [] (y ∷ ys) many each = absurd (omega (arith, many))
same_lists (x ∷ xs) [] many each = absurd (omega (arith, many))
same_lists (x ∷ xs) (y ∷ ys) many each =
    ap (λ z. z ∷ xs) (each 0 x y refl refl) ∙ ap (λ zs. y ∷ zs) (same_lists xs ys (omega (arith, many)) (λ k a b at_a at_b. each (suc k) a b at_a at_b))

-- ---- for each item

pub each_more : {X : Type 0} (P : X → Type 0) (xs ys : List X) → Each P xs → Each P ys → Each P (xs ++ ys)
each_more P [] ys a b = b
each_more P (x ∷ xs) ys a b = (a.0, each_more P xs ys a.1 b)

pub each_is : {X : Type 0} (P : X → Type 0) (xs : List X) → ((x : X) → P x) → Each P xs
each_is P [] f = tt
each_is P (x ∷ xs) f = (f x, each_is P xs f)

pub each_from_get : {X : Type 0} (P : X → Type 0) (xs : List X) → ((k : ℕ) (x : X) → slice_get xs k ≡ Some x → P x) → Each P xs
each_from_get P [] f = tt
each_from_get P (x ∷ xs) f = (f 0 x refl, each_from_get P xs (λ k y found. f (suc k) y found))

pub each_map : {X Y : Type 0} (h : X → Y) (P : Y → Type 0) (xs : List X) → Each (λ x. P (h x)) xs → Each P (map h xs)
each_map h P [] each = tt
each_map h P (x ∷ xs) each = (each.0, each_map h P xs each.1)

pub all_pass : {X : Type 0} (p : X → Bool) (xs : List X) → Each (λ x. p x ≡ true) xs → list_all p xs ≡ true
all_pass p [] each = refl
all_pass p (x ∷ xs) each = rw each.0 (all_pass p xs each.1)
