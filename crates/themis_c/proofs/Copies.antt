-- Elements that are written one after another to the start of a buffer.
use Rattle.std.proofs.Common.{◌≡◌, ◌<◌, ◌≤◌, ℕ, zero, suc, ◌+◌, List, [], ◌∷◌, ◌++◌, length, map, take, drop, get_or, refl, ap, ◌∙◌, add-one, arith}
use Rattle.std.proofs.Math.ListN.{set}

next : {X Y : Type 0} (f : X → Y) (xs : List X) (ys : List Y) (at : ℕ) (d : X) → at < length xs → length xs ≤ length ys
    → set (map f (take at xs) ++ drop at ys) at (f (get_or xs at d)) ≡ map f (take (suc at) xs) ++ drop (suc at) ys
next f [] ys at d there room = absurd (omega (arith, there))
next f (x ∷ xs) [] at d there room = absurd (omega (arith, room))
next f (x ∷ xs) (y ∷ ys) zero d there room = refl
next f (x ∷ xs) (y ∷ ys) (suc at) d there room = ap (λ (l : List _). f x ∷ l) (next f xs ys at d (omega (arith, there)) (omega (arith, room)))

-- one more is written
pub written_more : {X Y : Type 0} (f : X → Y) (xs : List X) (ys : List Y) (at : ℕ) (d : X) → at < length xs → length xs ≤ length ys
    → set (map f (take at xs) ++ drop at ys) at (f (get_or xs at d)) ≡ map f (take (at + 1) xs) ++ drop (at + 1) ys
written_more f xs ys at d there room = rw add-one (next f xs ys at d there room)

-- the same, from a position of the buffer on
pub written_from : {X Y : Type 0} (f : X → Y) (xs : List X) (ys : List Y) (start at : ℕ) (d : X) → at < length xs → start + length xs ≤ length ys
    → set (take start ys ++ map f (take at xs) ++ drop (start + at) ys) (start + at) (f (get_or xs at d))
    ≡ take start ys ++ map f (take (at + 1) xs) ++ drop (start + (at + 1)) ys
written_from f xs ys zero at d there room =
    let none : 0 + at ≡ at = omega arith in
    let more : 0 + (at + 1) ≡ at + 1 = omega arith in
    rw none (rw more (written_more f xs ys at d there (omega (arith, room))))
written_from f xs [] (suc start) at d there room = absurd (omega (arith, there, room))
written_from f xs (y ∷ ys) (suc start) at d there room =
    let here : suc start + at ≡ suc (start + at) = omega arith in
    let more : suc start + (at + 1) ≡ suc (start + (at + 1)) = omega arith in
    rw here (rw more (ap (λ (l : List _). y ∷ l) (written_from f xs ys start at d there (omega (arith, room)))))

-- Two lists are written, one after the other.
joined : {X Y : Type 0} (f : X → Y) (xs zs : List X) (ys : List Y) → length xs ≤ length ys
    → take (length xs) (map f xs ++ drop (length xs) ys) ++ map f zs ++ drop (length xs + length zs) (map f xs ++ drop (length xs) ys)
    ≡ map f (xs ++ zs) ++ drop (length xs + length zs) ys
joined f [] zs [] room = refl
joined f [] zs (y ∷ ys) room = let none : 0 + length zs ≡ length zs = omega arith in rw none refl
joined f (x ∷ xs) zs [] room = absurd (omega (arith, room))
joined f (x ∷ xs) zs (y ∷ ys) room =
    let more : suc (length xs) + length zs ≡ suc (length xs + length zs) = omega arith in
    rw more (ap (λ (l : List _). f x ∷ l) (joined f xs zs ys (omega (arith, room))))

pub both_written : {X Y : Type 0} (f : X → Y) (xs zs one two : List X) (old first last : List Y) (size : ℕ) → one ≡ xs → two ≡ zs → size ≡ length one
    → length xs ≤ length old → first ≡ map f one ++ drop (length one) old → last ≡ take size first ++ map f two ++ drop (size + length two) first
    → last ≡ map f (xs ++ zs) ++ drop (length xs + length zs) old
both_written {X} f xs zs one two old first last size e1 e2 es room first_is last_is =
    let begun : first ≡ map f xs ++ drop (length xs) old = first_is ∙ ap (λ (l : List X). map f l ++ drop (length l) old) e1 in
    last_is ∙ ap (λ (l : List X). take size first ++ map f l ++ drop (size + length l) first) e2
    ∙ ap (λ (s : ℕ). take s first ++ map f zs ++ drop (s + length zs) first) (es ∙ ap (λ (l : List X). length l) e1)
    ∙ ap (λ (l : List _). take (length xs) l ++ map f zs ++ drop (length xs + length zs) l) begun ∙ joined f xs zs old room
