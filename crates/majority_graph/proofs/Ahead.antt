-- The number of lists in which one place is before the other, counted list by list.
use Rattle.std.proofs.Common.{◌≡◌, ℕ, zero, suc, ◌+◌, ◌<◌, ◌≤◌, min, List, [], ◌∷◌, length, get_or, take, Bool, true, false, cond, refl, ap, ◌∙◌, arith, ltb}
use Rattle.std.specs.Int.{from_bool}
use Rattle.std.specs.List.{zip}
use Rattle.std.proofs.lemmas.List.{get_or_default}
use Rattle.std.proofs.lemmas.List.Sums.{sum_by-cons}
use Rattle.majority_graph.specs.Ranks.{ahead}

ahead_cons : (p q : ℕ) (ps qs : List ℕ) → ahead (p ∷ ps) (q ∷ qs) ≡ cond (ltb p q) 1 0 + ahead ps qs
ahead_cons p q ps qs = sum_by-cons (λ (x : ℕ × ℕ). cond (ltb x.0 x.1) 1 0) (p, q) (zip ps qs)

pub ahead_next : (ps qs : List ℕ) (i : ℕ) → i < length ps → i < length qs
    → ahead (take (suc i) ps) (take (suc i) qs) ≡ ahead (take i ps) (take i qs) + cond (ltb (get_or ps i 0) (get_or qs i 0)) 1 0
ahead_next [] qs i left right = absurd (omega (arith, left))
ahead_next (p ∷ ps) [] i left right = absurd (omega (arith, right))
ahead_next (p ∷ ps) (q ∷ qs) zero left right = ahead_cons p q [] [] ∙ omega arith
ahead_next (p ∷ ps) (q ∷ qs) (suc i) left right =
    let rest : ahead (take (suc i) ps) (take (suc i) qs) ≡ ahead (take i ps) (take i qs) + cond (ltb (get_or ps i 0) (get_or qs i 0)) 1 0 =
    ahead_next ps qs i (omega arith) (omega arith) in
    let next : ahead (take (suc (suc i)) (p ∷ ps)) (take (suc (suc i)) (q ∷ qs)) ≡ cond (ltb p q) 1 0 + ahead (take (suc i) ps) (take (suc i) qs) =
    ahead_cons p q (take (suc i) ps) (take (suc i) qs) in
    let here : ahead (take (suc i) (p ∷ ps)) (take (suc i) (q ∷ qs)) ≡ cond (ltb p q) 1 0 + ahead (take i ps) (take i qs) =
    ahead_cons p q (take i ps) (take i qs) in
    omega (arith, rest, next, here)

pub bool_point : (b : Bool) → from_bool b ≡ cond b 1 0
bool_point true = refl
bool_point false = refl

bool_low : (b : Bool) → from_bool b ≤ 1
bool_low true = omega arith
bool_low false = omega arith

-- one more list
pub ahead_more : (ps qs : List ℕ) (i n point p q : ℕ) → i < length ps → i < length qs → p ≡ get_or ps i p → q ≡ get_or qs i q → point ≡ from_bool (ltb p q)
    → n ≡ ahead (take i ps) (take i qs) → n ≤ i → (n + point ≡ ahead (take (i + 1) ps) (take (i + 1) qs)) × (n + point ≤ i + 1)
ahead_more ps qs i n point p q left right at_p at_q adds before few =
    let next : suc i ≡ i + 1 = omega arith in
    let here : ahead (take (suc i) ps) (take (suc i) qs) ≡ ahead (take (i + 1) ps) (take (i + 1) qs) = ap (λ (k : ℕ). ahead (take k ps) (take k qs)) next in
    let is_p : p ≡ get_or ps i 0 = at_p ∙ get_or_default ps i p 0 left in
    let is_q : q ≡ get_or qs i 0 = at_q ∙ get_or_default qs i q 0 right in
    let is : point ≡ from_bool (ltb (get_or ps i 0) (get_or qs i 0)) =
    adds ∙ ap (λ (x : ℕ). from_bool (ltb x q)) is_p ∙ ap (λ (x : ℕ). from_bool (ltb (get_or ps i 0) x)) is_q in
    let low : from_bool (ltb (get_or ps i 0) (get_or qs i 0)) ≤ 1 = bool_low (ltb (get_or ps i 0) (get_or qs i 0)) in (
      omega (arith, before, ahead_next ps qs i left right, bool_point (ltb (get_or ps i 0) (get_or qs i 0)), here, is),
      omega (arith, few, low, is),
    )

-- all lists
pub ahead_all : (ps qs : List ℕ) (n : ℕ) → min (length ps) (length qs) ≤ n → ahead (take n ps) (take n qs) ≡ ahead ps qs
ahead_all [] qs zero past = refl
ahead_all [] qs (suc n) past = refl
ahead_all (p ∷ ps) [] zero past = refl
ahead_all (p ∷ ps) [] (suc n) past = refl
ahead_all (p ∷ ps) (q ∷ qs) zero past = absurd (omega (arith, past))
ahead_all (p ∷ ps) (q ∷ qs) (suc n) past =
    let rest : ahead (take n ps) (take n qs) ≡ ahead ps qs = ahead_all ps qs n (omega (arith, past)) in
    let here : ahead (take (suc n) (p ∷ ps)) (take (suc n) (q ∷ qs)) ≡ cond (ltb p q) 1 0 + ahead (take n ps) (take n qs) =
    ahead_cons p q (take n ps) (take n qs) in
    omega (arith, rest, here, ahead_cons p q ps qs)
