-- Prefixes of one list, consecutive numbers, and sums over a list.
use Rattle.std.proofs.Common.{◌≡◌, ◌≢◌, ◌⊎◌, inl, inr, ℕ, zero, suc, ◌+◌, ◌≤◌, Bool, true, false, nat_lt, if◌then◌else◌, List, [], ◌∷◌, ◌++◌, length, set, refl, ap, sym, ◌∙◌, subst, ⊎_elim, arith, append_assoc, append-nil, length-append}
use mathlib.Core.List.{IsPrefix}
use mathlib.Core.Option.{some, some-injective, some-ne-none}
use lib.ListN.{get_elem?}
use Rattle.atomic_table.proofs.Lists.{at_set}
use Rattle.locked_log.specs.History.{span, times}
use Rattle.locked_log.specs.Turns.{total}

pub prefix_self : {A : Type 0} (xs : List A) → IsPrefix xs xs
prefix_self xs = ([], append-nil xs)

pub prefix_trans : {A : Type 0} (xs ys zs : List A) → IsPrefix xs ys → IsPrefix ys zs → IsPrefix xs zs
prefix_trans xs ys zs p q = (p.0 ++ q.0, sym (append_assoc xs p.0 q.0) ∙ (ap (λ w. w ++ q.0) p.1 ∙ q.1))

pub prefix_length : {A : Type 0} (xs ys : List A) → IsPrefix xs ys → length xs ≤ length ys
prefix_length xs ys p = omega (arith, sym (ap length p.1) ∙ length-append xs p.0)

-- a prefix as long as the whole list is the whole list
pub prefix_whole : {A : Type 0} (xs ys : List A) → IsPrefix xs ys → length ys ≤ length xs → xs ≡ ys
prefix_whole [] [] p le = refl
prefix_whole [] (y ∷ ys) p le = absurd (omega arith)
prefix_whole (x ∷ xs) [] p le = absurd (cc (p.1))
prefix_whole (x ∷ xs) (y ∷ ys) p le =
    let rest = prefix_whole xs ys (p.0, cc (p.1)) (omega arith) in cc (p.1, rest)

module _ {A : Type 0} where
  pub either_prefix : (b : Bool) (xs ys h : List A) → IsPrefix xs h → IsPrefix ys h → IsPrefix (if b then ys else xs) h
  either_prefix true xs ys h p q = q
  either_prefix false xs ys h p q = p

  -- of two prefixes, one of which is the whole list, the longer is the whole list
  pub longer_whole : (xs ys h : List A) → IsPrefix xs h → IsPrefix ys h → (b : Bool) → nat_lt (length xs) (length ys) ≡ b
      → (xs ≡ h) ⊎ (ys ≡ h) → (if b then ys else xs) ≡ h
  longer_whole xs ys h p q true is (inl x) = absurd (grind (arith, is, prefix_length ys h q, ap length x))
  longer_whole xs ys h p q true is (inr y) = y
  longer_whole xs ys h p q false is (inl x) = x
  longer_whole xs ys h p q false is (inr y) = prefix_whole xs h p (grind (arith, is, ap length y))

module _ {A : Type 0} where
  -- of two prefixes of one list, the shorter is a prefix of the longer
  pub prefix_shorter : (xs ys zs : List A) → IsPrefix xs zs → IsPrefix ys zs → length xs ≤ length ys → IsPrefix xs ys
  prefix_shorter [] ys zs p q le = (ys, refl)
  prefix_shorter (x ∷ xs) [] zs p q le = absurd (omega arith)
  prefix_shorter (x ∷ xs) (y ∷ ys) [] p q le = absurd (cc (p.1))
  prefix_shorter (x ∷ xs) (y ∷ ys) (z ∷ zs) p q le =
      let heads : x ≡ y = cc (p.1, q.1) in
      let rest = prefix_shorter xs ys zs (p.0, cc (p.1)) (q.0, cc (q.1)) (omega arith) in
      (rest.0, cc (heads, rest.1))

  pub shorter_begins : (xs ys h : List A) → IsPrefix xs h → IsPrefix ys h → (b : Bool) → nat_lt (length xs) (length ys) ≡ b
      → IsPrefix (if b then xs else ys) (if b then ys else xs)
  shorter_begins xs ys h p q true is = prefix_shorter xs ys h p q (grind (arith, is))
  shorter_begins xs ys h p q false is = prefix_shorter ys xs h q p (grind (arith, is))

pub times-append : (x : ℕ) (xs ys : List ℕ) → times x (xs ++ ys) ≡ times x xs + times x ys
times-append x [] ys = omega arith
times-append x (y ∷ xs) ys = let r = times-append x xs ys in omega arith

pub span-append : (a m n : ℕ) → span a (m + n) ≡ span a m ++ span (a + m) n
span-append a zero n =
    let e : 0 + n ≡ n = omega arith in
    let f : a ≡ a + 0 = omega arith in
    ap (span a) e ∙ ap (λ b. span b n) f
span-append a (suc m) n =
    let r = span-append (a + 1) m n in
    let g : a + 1 + m ≡ a + suc m = omega arith in
    let e : span (a + 1 + m) n ≡ span (a + suc m) n = ap (λ b. span b n) g in
    let h : suc m + n ≡ suc (m + n) = omega arith in
    let f : span a (suc m + n) ≡ span a (suc (m + n)) = ap (span a) h in
    f ∙ ap (λ (l : List ℕ). a ∷ l) (r ∙ ap (λ (l : List ℕ). span (a + 1) m ++ l) e)

module _ {V : Type 0} (f : V → ℕ) where
  pub total_set : (vs : List V) (k : ℕ) (v w : V) → get_elem? vs k ≡ some v → total f (set vs k w) + f v ≡ total f vs + f w
  total_set [] k v w e = absurd (some-ne-none v (sym e))
  total_set (u ∷ vs) zero v w e = let same : f u ≡ f v = ap f (some-injective u v e) in omega arith
  total_set (u ∷ vs) (suc k) v w e = let r = total_set vs k v w e in omega arith

  pub total_snoc : (vs : List V) (w : V) → total f (vs ++ w ∷ []) ≡ total f vs + f w
  total_snoc [] w = omega arith
  total_snoc (u ∷ vs) w = let r = total_snoc vs w in omega arith

  pub total_le : (vs : List V) (k : ℕ) (v : V) → get_elem? vs k ≡ some v → f v ≤ total f vs
  total_le [] k v e = absurd (some-ne-none v (sym e))
  total_le (u ∷ vs) zero v e = let same : f u ≡ f v = ap f (some-injective u v e) in omega arith
  total_le (u ∷ vs) (suc k) v e = let r = total_le vs k v e in omega arith

  pub total_two : (vs : List V) (j k : ℕ) (u v : V) → j ≢ k → get_elem? vs j ≡ some u → get_elem? vs k ≡ some v → f u + f v ≤ total f vs
  total_two [] j k u v n d e = absurd (some-ne-none v (sym e))
  total_two (x ∷ vs) zero zero u v n d e = absurd (n refl)
  total_two (x ∷ vs) zero (suc k) u v n d e = let same : f x ≡ f u = ap f (some-injective x u d) in let r = total_le vs k v e in omega arith
  total_two (x ∷ vs) (suc j) zero u v n d e = let same : f x ≡ f v = ap f (some-injective x v e) in let r = total_le vs j u d in omega arith
  total_two (x ∷ vs) (suc j) (suc k) u v n d e = let r = total_two vs j k u v (λ s. n (ap suc s)) d e in omega arith

  pub total_none : (vs : List V) → ((k : ℕ) (v : V) → get_elem? vs k ≡ some v → f v ≡ 0) → total f vs ≡ 0
  total_none [] h = refl
  total_none (u ∷ vs) h = let a = h 0 u refl in let r = total_none vs (λ k v e. h (suc k) v e) in omega arith

module _ {V : Type 0} (f g : V → ℕ) where
  -- where one has the whole sum of g, and f is 0 wherever g is, it has the whole sum of f
  pub total_alone : (vs : List V) (k : ℕ) (v : V) → get_elem? vs k ≡ some v
      → ((j : ℕ) (u : V) → get_elem? vs j ≡ some u → g u ≡ 0 → f u ≡ 0) → total g vs ≡ g v → total f vs ≡ f v
  total_alone [] k v e zero_too all = absurd (some-ne-none v (sym e))
  total_alone (u ∷ vs) zero v e zero_too all =
      let same : u ≡ v = some-injective u v e in
      let gs : g u ≡ g v = ap g same in
      let fs : f u ≡ f v = ap f same in
      let rest = total_none f vs (λ j w d. zero_too (suc j) w d (let l = total_le g vs j w d in omega arith)) in
      omega arith
  total_alone (u ∷ vs) (suc k) v e zero_too all =
      let l = total_le g vs k v e in
      let here = zero_too 0 u refl (omega arith) in
      let r = total_alone vs k v e (λ j w d. zero_too (suc j) w d) (omega arith) in
      omega arith

-- what holds for each view still holds after one has changed
pub each_set : {V : Type 0} (F : V → Type 0) (vs : List V) (k : ℕ) (w : V) → F w → ((j : ℕ) (u : V) → j ≢ k → get_elem? vs j ≡ some u → F u)
    → (j : ℕ) (u : V) → get_elem? (set vs k w) j ≡ some u → F u
each_set {V} F vs k w mine others j u e = ⊎_elim (λ (x : (j ≡ k) × (w ≡ u)). subst F x.1 mine)
    (λ (x : (j ≢ k) × (get_elem? vs j ≡ some u)). others j u x.0 x.1) (at_set vs k j w u e)
