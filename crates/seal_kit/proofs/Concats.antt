-- Byte strings, one after another.
use Rattle.std.proofs.Common.{◌≡◌, ℕ, zero, suc, ◌+◌, ◌<◌, get_or, List, [], ◌∷◌, ◌++◌, length, take, sym, ap, ◌∙◌, append_assoc, arith}
use Rattle.std.specs.List.{concat}
use Rattle.std.proofs.lemmas.List.{append-nil}

-- one more of the strings
pub concat_more : (xs : List (List ℕ)) (i : ℕ) → i < length xs → concat (take (suc i) xs) ≡ concat (take i xs) ++ get_or xs i []
concat_more [] i less = absurd (omega (arith, less))
concat_more (x ∷ xs) zero less = append-nil x
concat_more (x ∷ xs) (suc i) less = ap (λ (t : List ℕ). x ++ t) (concat_more xs i (omega (arith, less)))
    ∙ sym (append_assoc x (concat (take i xs)) (get_or xs i []))

pub concat_next : (xs : List (List ℕ)) (i : ℕ) → i < length xs → concat (take (i + 1) xs) ≡ concat (take i xs) ++ get_or xs i []
concat_next xs i less = (let next : i + 1 ≡ suc i = omega arith in ap (λ (n : ℕ). concat (take n xs)) next ∙ concat_more xs i less)
