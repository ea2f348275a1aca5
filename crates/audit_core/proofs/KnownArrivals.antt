-- Rule 1, on the state of one pass.
use Rattle.std.proofs.Common.{◌≡◌, ℕ, suc, ◌+◌, List, [], ◌∷◌, ◌++◌, length, take, drop, ◌&&◌, ◌==◌, sym, ap, ◌∙◌, arith}
use Rattle.std.specs.Cmp.Lexicographic.{pointwise, pointwise_decides}
use Rattle.std.specs.Cmp.{unsigned_Decides}
use Rattle.std.proofs.lemmas.Bool.Decides.{Decides-and, same_from_decides}
use Rattle.std.proofs.lemmas.List.{append_cancel_left, length-append}
use Rattle.seq_base.specs.declared.tx.Tx.{Tx}
use Rattle.seq_base.specs.Tx.{tx_eq, tx_eq_decides}
use Rattle.audit_core.specs.Judging.{goes_on}

-- the prefix of a list, and its next elements
take_more : {X : Type 0} (xs prefix : List X) (n : ℕ) → prefix ≡ take (length prefix) xs
    → take (length prefix + n) xs ≡ prefix ++ take n (drop (length prefix) xs)
take_more xs [] n is = ap (λ (k : ℕ). take k xs) (let same : 0 + n ≡ n = omega arith in same)
take_more [] (f ∷ prefix) n is = absurd (cc)
take_more {X} (x ∷ xs) (f ∷ prefix) n is =
    let head : f ≡ x = cc in
    let tail : prefix ≡ take (length prefix) xs = cc in
    ap (λ (k : ℕ). take k (x ∷ xs)) (let same : suc (length prefix) + n ≡ suc (length prefix + n) = omega arith in same)
    ∙ ap (λ (ys : List X). x ∷ ys) (take_more xs prefix n tail) ∙ ap (λ (y : X). y ∷ prefix ++ take n (drop (length prefix) xs)) (sym head)

-- Arrivals continue the list exactly where all that arrived is a prefix of it.
pub goes_on_shows : (arrivals prefix list : List Tx) (kept : ℕ) → prefix ≡ take (length prefix) arrivals
    → goes_on arrivals (length prefix) kept list ≡ (pointwise tx_eq (prefix ++ list) (take kept arrivals) && (kept == length (prefix ++ list)))
goes_on_shows arrivals prefix list kept begins =
    same_from_decides {P = (kept ≡ length prefix + length list) × (list ≡ take (length list) (drop (length prefix) arrivals))}
    (goes_on arrivals (length prefix) kept list) (pointwise tx_eq (prefix ++ list) (take kept arrivals) && (kept == length (prefix ++ list)))
    (Decides-and (kept == length prefix + length list) (pointwise tx_eq list (take (length list) (drop (length prefix) arrivals)))
    (unsigned_Decides kept (length prefix + length list)) (pointwise_decides tx_eq_decides list (take (length list) (drop (length prefix) arrivals))))
    (let other = Decides-and (pointwise tx_eq (prefix ++ list) (take kept arrivals)) (kept == length (prefix ++ list))
    (pointwise_decides tx_eq_decides (prefix ++ list) (take kept arrivals)) (unsigned_Decides kept (length (prefix ++ list))) in
    ((λ is. to (other.0 is).0 (other.0 is).1), (λ h. other.1 (from h.0 h.1, h.0 ∙ sym (length-append prefix list)))))
  where
    to : prefix ++ list ≡ take kept arrivals → kept ≡ length (prefix ++ list)
        → (kept ≡ length prefix + length list) × (list ≡ take (length list) (drop (length prefix) arrivals))
    to same count =
        let sum : kept ≡ length prefix + length list = count ∙ length-append prefix list in (
          sum,
          append_cancel_left prefix list (take (length list) (drop (length prefix) arrivals))
              (same ∙ ap (λ (k : ℕ). take k arrivals) sum ∙ take_more arrivals prefix (length list) begins),
        )

    from : kept ≡ length prefix + length list → list ≡ take (length list) (drop (length prefix) arrivals) → prefix ++ list ≡ take kept arrivals
    from sum is = ap (λ (ys : List Tx). prefix ++ ys) is ∙ sym (take_more arrivals prefix (length list) begins) ∙ ap (λ (k : ℕ). take k arrivals) (sym sum)
