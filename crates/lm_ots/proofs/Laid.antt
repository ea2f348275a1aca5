-- Bytes written into a buffer, one part after another.
use Rattle.std.proofs.Common.{◌≡◌, ℕ, ◌+◌, ◌≤◌, List, [], ◌∷◌, ◌++◌, length, take, drop, set, take-take, sym, ap, ◌∙◌, arith}
use Rattle.std.proofs.lemmas.List.{take_all, nil_from_length, drop_at, set_split, take_at, append-nil, take-append-le, length-set, length-take, length-drop}
use Rattle.lm_ots.specs.Chain.{IsBlock}
use borrow.Rule.Slice.PartMut.{put_mid}

take_prefix : (u : List ℕ) → take 22 (take 23 u) ≡ take 22 u
take_prefix u = let less : 22 ≤ 23 = omega arith in simp take-take

-- the prefix of a block in three parts, and its value
pub four_parts : (a b c e s t u w : List ℕ)
    → length a ≡ 16 → length b ≡ 4 → length c ≡ 2 → length e ≡ 32 → length u ≡ 55 → length w ≡ 55
    → take (0 + length a) s ≡ a → take (16 + length b) t ≡ take 16 s ++ b → take (20 + length c) u ≡ take 20 t ++ c
    → take (23 + length e) w ≡ take 23 u ++ e
    → IsBlock (a ++ b ++ c) e w
four_parts a b c e s t u w la lb lc le lu lw h1 h2 h3 h4 =
    let k1 : take 16 s ≡ a = rw la at h1 in
    let k2 : take 20 t ≡ take 16 s ++ b = rw lb at h2 in
    let k3 : take 22 u ≡ take 20 t ++ c = rw lc at h3 in
    let k4 : take 55 w ≡ take 23 u ++ e = rw le at h4 in
    let whole : w ≡ take 23 u ++ e = sym (take_all 55 w (omega arith)) ∙ k4 in
    let long : length (take 23 u) ≡ 23 = omega (arith, length-take 23 u) in
    record {
      head =
          ap (take 22) whole ∙ take-append-le 22 (take 23 u) e (omega arith) ∙ take_prefix u
          ∙ k3 ∙ ap (λ (l : List ℕ). l ++ c) (k2 ∙ ap (λ (l : List ℕ). l ++ b) k1);
      value_after = ap (drop 23) whole ∙ drop_at (take 23 u) e 23 long;
    }

-- a step: with the position written, the whole block is hashed, and the hash replaces the value
pub marked : (b : List ℕ) (x : ℕ) → length b ≡ 55 → set b 22 x ≡ take 22 b ++ x ∷ drop 23 b
marked b x l = set_split b 22 x (omega (arith, l))

pub value_taken : (b : List ℕ) (x : ℕ) (y : List ℕ) → length b ≡ 55 → drop 23 (put_mid 23 32 (set b 22 x) y) ≡ y
value_taken b x y l =
    let long : length (set b 22 x) ≡ 55 = length-set b 22 x ∙ l in
    let prefix : length (take 23 (set b 22 x)) ≡ 23 = omega (arith, length-take 23 (set b 22 x)) in
    let following : length (drop 32 (drop 23 (set b 22 x))) ≡ 0 = omega (arith, length-drop 32 (drop 23 (set b 22 x)), length-drop 23 (set b 22 x)) in
    drop_at (take 23 (set b 22 x)) (y ++ drop 32 (drop 23 (set b 22 x))) 23 prefix
    ∙ ap (λ (l : List ℕ). y ++ l) (nil_from_length _ following) ∙ append-nil y

pub pair_after : (xs ys : List ℕ) → length xs ≡ 32 → put_mid 32 2 (xs ++ 0 ∷ 0 ∷ []) ys ≡ xs ++ ys
pair_after xs ys l =
    ap (λ (f : List ℕ). f ++ (ys ++ drop 2 (drop 32 (xs ++ 0 ∷ 0 ∷ [])))) (take_at xs (0 ∷ 0 ∷ []) 32 l)
    ∙ ap (λ (r : List ℕ). xs ++ (ys ++ drop 2 r)) (drop_at xs (0 ∷ 0 ∷ []) 32 l)
    ∙ ap (λ (r : List ℕ). xs ++ r) (append-nil ys)
