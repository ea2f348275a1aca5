-- Lists whose elements are changed in place, one after another.
use Rattle.std.proofs.Common.{◌≡◌, ℕ, zero, suc, ◌+◌, ◌<◌, List, [], ◌∷◌, ◌≤◌, length, get_or, map, take, refl, ap, sym, subst, ◌∙◌, arith}
use Rattle.std.specs.Prelude.{All, slice_set}
use Rattle.std.proofs.lemmas.List.{take_all, take_more}
use Rattle.std.proofs.lemmas.List.Elements.{All-append, All-cons, All-nil}

module _ {X : Type 0} (f : X → X) where
  -- the first ones are changed
  abbrev pub changed : ℕ → List X → List X
  changed zero xs = xs
  changed (suc k) [] = []
  changed (suc k) (x ∷ xs) = f x ∷ changed k xs

  pub changed_at : (k : ℕ) (xs : List X) (d : X) → get_or (changed k xs) k d ≡ get_or xs k d
  changed_at zero xs d = refl
  changed_at (suc k) [] d = refl
  changed_at (suc k) (x ∷ xs) d = changed_at k xs d

  pub changed_more : (k : ℕ) (xs : List X) (d : X) → k < length xs → slice_set (changed k xs) k (f (get_or xs k d)) ≡ changed (k + 1) xs
  changed_more k [] d lt = absurd (omega (arith, lt))
  changed_more zero (x ∷ xs) d lt = refl
  changed_more (suc k) (x ∷ xs) d lt =
      let next : suc (k + 1) ≡ suc k + 1 = omega arith in
      subst (λ (n : ℕ). slice_set (changed (suc k) (x ∷ xs)) (suc k) (f (get_or xs k d)) ≡ changed n (x ∷ xs)) next
      (ap (λ (l : List X). f x ∷ l) (changed_more k xs d (omega (arith, lt))))

  pub changed_all : (xs : List X) → changed (length xs) xs ≡ map f xs
  changed_all [] = refl
  changed_all (x ∷ xs) = ap (λ (l : List X). f x ∷ l) (changed_all xs)

  -- once each is changed
  pub changed_whole : (k : ℕ) (now xs : List X) → k ≡ length xs → now ≡ changed k xs → now ≡ map f xs
  changed_whole k now xs len is = is ∙ ap (λ (n : ℕ). changed n xs) len ∙ changed_all xs

-- what holds of one more, and of all
module _ {X : Type 0} (P : X → Type 0) where
  pub all_more : (xs : List X) (k : ℕ) (x : X) → k < length xs → All P (take k xs) → x ≡ get_or xs k x → P x → All P (take (k + 1) xs)
  all_more xs k x lt all is here =
      subst (All P) (sym (take_more xs k x lt))
      (All-append P (take k xs) (get_or xs k x ∷ []) all (All-cons P (get_or xs k x) [] (subst P is here) (All-nil P)))

  pub all_taken : (xs : List X) (k : ℕ) → length xs ≤ k → All P (take k xs) → All P xs
  all_taken xs k le all = subst (All P) (take_all k xs le) all

-- and once each was taken
pub taken_whole : {X Y : Type 0} (g : X → Y) (k : ℕ) (xs : List X) → k ≡ length xs → map g (take k xs) ≡ map g xs
taken_whole g k xs len = ap (map g) (take_all k xs (omega (arith, len)))
