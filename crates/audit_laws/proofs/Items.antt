-- What is computed over the items of honest replicas is the same if each of these items adds the same.
use Rattle.std.proofs.Common.{◌≡◌, ℕ, suc, ◌+◌, Bool, true, false, cond, List, [], ◌∷◌, get_or, refl, sym, ap, subst, ◌∙◌, arith}
use Rattle.run_record.specs.Honest.{honest_items}

pub where_true : {A : Type 0} (b : Bool) (more other rest : A) → (b ≡ true → more ≡ other) → cond b more rest ≡ cond b other rest
where_true true more other rest same = same refl
where_true false more other rest same = refl

either_way : {A : Type 0} (b : Bool) (rest : A) → cond b rest rest ≡ rest
either_way true rest = refl
either_way false rest = refl

-- What holds of each honest replica from one on holds of that one, and of each from the next one on.
module _ (honest : ℕ → Bool) (P : ℕ → ℕ → Type 0) (replica : ℕ) (each : (k : ℕ) → honest (replica + k) ≡ true → P (replica + k) k) where
  of_first : honest replica ≡ true → P replica 0
  of_first = let here : replica + 0 ≡ replica = omega arith in subst (λ (r : ℕ). honest r ≡ true → P r 0) here (each 0)

  of_others : (k : ℕ) → honest (replica + 1 + k) ≡ true → P (replica + 1 + k) (suc k)
  of_others k = let next : replica + suc k ≡ replica + 1 + k = omega arith in subst (λ (r : ℕ). honest r ≡ true → P r (suc k)) next (each (suc k))

module _ {X A : Type 0} (honest : ℕ → Bool) where
  -- each honest replica's item adds to the result of those after it
  abbrev pub over : (ℕ → X → A → A) → A → ℕ → List X → A
  over add none replica [] = none
  over add none replica (x ∷ xs) = cond (honest replica) (add replica x (over add none (replica + 1) xs)) (over add none (replica + 1) xs)

  module _ (g : List (ℕ × X) → A) (add : ℕ → X → A → A) (adds : (p : ℕ × X) (ps : List (ℕ × X)) → g (p ∷ ps) ≡ add p.0 p.1 (g ps)) where
    goes_on : (b : Bool) (replica : ℕ) (x : X) (items : List (ℕ × X)) (rest : A) → g items ≡ rest
        → g (cond b ((replica, x) ∷ items) items) ≡ cond b (add replica x rest) rest
    goes_on true replica x items rest is = adds (replica, x) items ∙ ap (add replica x) is
    goes_on false replica x items rest is = is

    pub is_over : (replica : ℕ) (xs : List X) → g (honest_items honest replica xs) ≡ over add (g []) replica xs
    is_over replica [] = refl
    is_over replica (x ∷ xs) =
        goes_on (honest replica) replica x (honest_items honest (replica + 1) xs) (over add (g []) (replica + 1) xs) (is_over (replica + 1) xs)

  -- Items that add nothing do not change the result.
  idle_over : (add : ℕ → X → A → A) (none : A) (d : X) (replica : ℕ) (xs : List X)
      → ((k : ℕ) → honest (replica + k) ≡ true → (rest : A) → add (replica + k) (get_or xs k d) rest ≡ rest) → over add none replica xs ≡ none
  idle_over add none d replica [] idle = refl
  idle_over add none d replica (x ∷ xs) idle =
      let P : ℕ → ℕ → Type 0 = λ (r k : ℕ). (rest : A) → add r (get_or (x ∷ xs) k d) rest ≡ rest in
      let rest : A = over add none (replica + 1) xs in
      where_true (honest replica) (add replica x rest) rest rest (λ is. of_first honest P replica idle is rest)
      ∙ either_way (honest replica) rest
      ∙ idle_over add none d (replica + 1) xs (of_others honest P replica idle)

  module _ (add other : ℕ → X → A → A) (none : A) (d : X) (idle : (r : ℕ) (rest : A) → add r d rest ≡ rest)
      (other_idle : (r : ℕ) (rest : A) → other r d rest ≡ rest) where
    pub same_over : (replica : ℕ) (xs ys : List X)
        → ((k : ℕ) → honest (replica + k) ≡ true → (rest : A) → add (replica + k) (get_or xs k d) rest ≡ other (replica + k) (get_or ys k d) rest)
        → over add none replica xs ≡ over other none replica ys
    same_over replica [] ys same = sym (idle_over other none d replica ys (λ k is rest. sym (same k is rest) ∙ idle (replica + k) rest))
    same_over replica (x ∷ xs) [] same = idle_over add none d replica (x ∷ xs) (λ k is rest. same k is rest ∙ other_idle (replica + k) rest)
    same_over replica (x ∷ xs) (y ∷ ys) same =
        let P : ℕ → ℕ → Type 0 = λ (r k : ℕ). (rest : A) → add r (get_or (x ∷ xs) k d) rest ≡ other r (get_or (y ∷ ys) k d) rest in
        let rest : A = over add none (replica + 1) xs in
        where_true (honest replica) (add replica x rest) (other replica y rest) rest (λ is. of_first honest P replica same is rest)
        ∙ ap (λ (a : A). cond (honest replica) (other replica y a) a) (same_over (replica + 1) xs ys (of_others honest P replica same))
