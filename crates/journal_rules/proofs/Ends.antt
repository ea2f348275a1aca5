-- Lists extended by one element at the end, and what holds of each element and those before it.
use Rattle.std.proofs.Common.{◌≡◌, suc, List, [], ◌∷◌, ◌++◌, refl, ap, subst, inl, inr, ◌⊎◌, arith}
use Rattle.std.specs.Prelude.{All}
use Rattle.std.specs.List.{AllPairs}
use Rattle.std.proofs.lemmas.List.Elements.{All-nil, All-cons, All-head, All-tail, All-append}
use Rattle.std.proofs.lemmas.List.Kept.{AllPairs-cons}
use Rattle.std.proofs.lemmas.List.{get_or_append_left, length-append}

module _ {X : Type 0} where
  -- each element, with those before it
  abbrev pub Each : (List X → X → Type 0) → List X → Type 0
  Each P xs = (before : List X) (x : X) (after : List X) → xs ≡ before ++ x ∷ after → P before x

  -- It is the last one, or comes before it.
  pub last_or_before : (xs : List X) (last : X) (before : List X) (x : X) (after : List X) → xs ++ last ∷ [] ≡ before ++ x ∷ after
      → ((xs ≡ before) × (last ≡ x)) ⊎ ((rest : List X) × (xs ≡ before ++ x ∷ rest))
  last_or_before [] last [] x after is = inl (refl, (cc))
  last_or_before [] last (b ∷ []) x after is = absurd (cc)
  last_or_before [] last (b ∷ c ∷ before) x after is = absurd (cc)
  last_or_before (y ∷ xs) last [] x after is = let head : y ≡ x = cc in inr (xs, ap (λ (z : X). z ∷ xs) head)
  last_or_before (y ∷ xs) last (b ∷ before) x after is =
      let head : y ≡ b = cc in
      let tail : xs ++ last ∷ [] ≡ before ++ x ∷ after = cc in
      elim (last_or_before xs last before x after tail) [
        | inl p ↦ let same : y ∷ xs ≡ b ∷ before = (let all : xs ≡ before = p.0 in cc) in inl (same, p.1)
        | inr p ↦ let same : y ∷ xs ≡ b ∷ before ++ x ∷ p.0 = (let all : xs ≡ before ++ x ∷ p.0 = p.1 in cc) in inr (p.0, same)
      ]

  pub each_none : (P : List X → X → Type 0) → Each P []
  each_none P [] x after is = absurd (cc)
  each_none P (b ∷ before) x after is = absurd (cc)

  pub each_more : (P : List X → X → Type 0) (xs : List X) (last : X) → Each P xs → P xs last → Each P (xs ++ last ∷ [])
  each_more P xs last each now before x after is = elim (last_or_before xs last before x after is) [
    | inl p ↦ subst (λ (ys : List X). P ys x) p.0 (subst (P xs) p.1 now)
    | inr p ↦ each before x p.0 p.1
  ]

  pub first_pairs : (R : X → X → Type 0) (x : X) (xs : List X) → AllPairs R (x ∷ xs) → All (R x) xs
  first_pairs R x xs pairs k d inside = pairs 0 (suc k) d (omega arith) (omega (arith, inside))

  pub rest_pairs : (R : X → X → Type 0) (x : X) (xs : List X) → AllPairs R (x ∷ xs) → AllPairs R xs
  rest_pairs R x xs pairs i j d less inside = pairs (suc i) (suc j) d (omega (arith, less)) (omega (arith, inside))

  pub pairs_more : (R : X → X → Type 0) (xs : List X) (last : X) → AllPairs R xs → All (λ x. R x last) xs → AllPairs R (xs ++ last ∷ [])
  pairs_more R [] last pairs all = AllPairs-cons R last [] (All-nil (R last)) pairs
  pairs_more R (x ∷ xs) last pairs all =
      AllPairs-cons R x (xs ++ last ∷ [])
      (All-append (R x) xs (last ∷ []) (first_pairs R x xs pairs) (All-cons (R x) last [] (All-head (λ y. R y last) x xs all) (All-nil (R x))))
      (pairs_more R xs last (rest_pairs R x xs pairs) (All-tail (λ y. R y last) x xs all))

  pub pairs_prefix : (R : X → X → Type 0) (xs ys : List X) → AllPairs R (xs ++ ys) → AllPairs R xs
  pairs_prefix R xs ys pairs i j d less inside =
      rw (← get_or_append_left xs ys d i (omega (arith, less, inside)), ← get_or_append_left xs ys d j inside)
      (pairs i j d less (omega (arith, inside, length-append xs ys)))
