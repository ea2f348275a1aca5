-- The texts of those numbers that pass a test, one more at a time.
use Rattle.std.proofs.Common.{◌≡◌, ℕ, ◌+◌, Bool, true, false, List, [], ◌∷◌, ◌++◌, filter, sym, ap, ◌∙◌, refl}
use Rattle.std.specs.List.{flat_map, range_with_len}
use Rattle.std.proofs.lemmas.Grind.{flat_map-append}
use Rattle.std.proofs.lemmas.List.{append-nil, append_assoc}
use Rattle.std.proofs.lemmas.List.Elements.{filter-append}
use Rattle.seq_base.proofs.Points.{one_number_more}

one_text_more : (f : ℕ → List ℕ) (p : ℕ → Bool) (k : ℕ)
    → flat_map f (filter p (range_with_len 0 (k + 1))) ≡ flat_map f (filter p (range_with_len 0 k)) ++ flat_map f (filter p (k ∷ []))
one_text_more f p k =
    ap (λ (l : List ℕ). flat_map f (filter p l)) (one_number_more k)
    ∙ ap (flat_map f) (filter-append p (range_with_len 0 k) (k ∷ []))
    ∙ flat_map-append f (filter p (range_with_len 0 k)) (filter p (k ∷ []))

-- one that passes is written
pub with_next : (f : ℕ → List ℕ) (p : ℕ → Bool) (k : ℕ) (old text new : List ℕ) → p k ≡ true
    → text ≡ old ++ flat_map f (filter p (range_with_len 0 k)) → new ≡ text ++ f k
    → new ≡ old ++ flat_map f (filter p (range_with_len 0 (k + 1)))
with_next f p k old text new passes so_far written =
    let so : List ℕ = flat_map f (filter p (range_with_len 0 k)) in
    let own : flat_map f (filter p (k ∷ [])) ≡ f k = rw passes (append-nil (f k)) in
    written ∙ ap (λ (x : List ℕ). x ++ f k) so_far ∙ append_assoc old so (f k)
    ∙ ap (λ (x : List ℕ). old ++ x) (ap (λ (x : List ℕ). so ++ x) (sym own) ∙ sym (one_text_more f p k))

-- one that does not is passed over
pub without_next : (f : ℕ → List ℕ) (p : ℕ → Bool) (k : ℕ) (old text : List ℕ) → p k ≡ false
    → text ≡ old ++ flat_map f (filter p (range_with_len 0 k)) → text ≡ old ++ flat_map f (filter p (range_with_len 0 (k + 1)))
without_next f p k old text fails so_far =
    let so : List ℕ = flat_map f (filter p (range_with_len 0 k)) in
    let none : flat_map f (filter p (k ∷ [])) ≡ [] = rw fails refl in
    so_far ∙ ap (λ (x : List ℕ). old ++ x) (sym (append-nil so) ∙ ap (λ (x : List ℕ). so ++ x) (sym none) ∙ sym (one_text_more f p k))
