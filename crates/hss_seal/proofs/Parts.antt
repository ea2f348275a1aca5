-- Bytes that stand one part after the other.
use Rattle.std.proofs.Common.{◌≡◌, ℕ, List, [], ◌++◌, length, take, drop, slice_range, sym, ap, ◌∙◌, arith, append_assoc, length-append}
use Rattle.std.proofs.lemmas.List.{take_at, drop_at, append-nil, nil_from_length, length-drop}
use Rattle.lms_seal.proofs.Cut.{cut}
use borrow.Rule.Slice.PartMut.{put_mid}

-- what is written after other bytes
pub put_after : (xs ys zs : List ℕ) (i k : ℕ) → length xs ≡ i → length zs ≡ k → put_mid i k (xs ++ zs) ys ≡ xs ++ ys
put_after xs ys zs i k lx lz =
    let following : drop i (xs ++ zs) ≡ zs = drop_at xs zs i lx in
    let none : drop k zs ≡ [] = nil_from_length (drop k zs) (omega (arith, length-drop k zs)) in
    ap (λ (l : List ℕ). l ++ (ys ++ drop k (drop i (xs ++ zs)))) (take_at xs zs i lx)
    ∙ ap (λ (l : List ℕ). xs ++ (ys ++ drop k l)) following
    ∙ ap (λ (l : List ℕ). xs ++ (ys ++ l)) none
    ∙ ap (λ (l : List ℕ). xs ++ l) (append-nil ys)

-- the four parts of a signature of two levels
pub record HasParts (a b c d s : List ℕ) : Type 0 where
  pub levels : take 4 s ≡ a
  pub first : slice_range s 4 2352 ≡ b
  pub key : slice_range s 2352 2408 ≡ c
  pub second : drop 2408 s ≡ d

pub has_parts : (a b c d : List ℕ) → length a ≡ 4 → length b ≡ 2348 → length c ≡ 56 → HasParts a b c d (a ++ (b ++ c) ++ d)
has_parts a b c d la lb lc =
    let whole : a ++ (b ++ c) ++ d ≡ a ++ (b ++ (c ++ d)) = append_assoc a (b ++ c) d ∙ ap (λ (l : List ℕ). a ++ l) (append_assoc b c d) in
    let seam : a ++ (b ++ c) ++ d ≡ (a ++ b) ++ (c ++ d) = whole ∙ sym (append_assoc a b (c ++ d)) in
    let two : length (a ++ b) ≡ 2352 = omega (arith, length-append a b) in
    let three : length (a ++ (b ++ c)) ≡ 2408 = omega (arith, length-append a (b ++ c), length-append b c) in record {
      levels = ap (take 4) whole ∙ take_at a (b ++ (c ++ d)) 4 la;
      first = ap (λ (s : List ℕ). slice_range s 4 2352) whole ∙ cut a b (c ++ d) 4 2352 la (omega (arith, lb));
      key = ap (λ (s : List ℕ). slice_range s 2352 2408) seam ∙ cut (a ++ b) c d 2352 2408 two (omega (arith, lc));
      second = drop_at (a ++ (b ++ c)) d 2408 three;
    }
