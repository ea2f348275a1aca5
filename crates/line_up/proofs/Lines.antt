-- Lines, for items of any type.
use Rattle.std.proofs.Common.{◌≡◌, ℕ, ◌+◌, ◌-◌, ◌<◌, ◌≤◌, ◌⊎◌, inl, inr, List, [], ◌∷◌, ◌++◌, length, get_or, take, Bool, true, false, not, refl, sym, subst, arith}
use Rattle.std.specs.Prelude.{All}
use Rattle.std.specs.List.{AllPairs, insert, position_or_len}
use Rattle.std.specs.List.Sorted.{IsPermutation}
use Rattle.std.proofs.Math.ListN.{get_or-append}
use Rattle.std.proofs.Math.Seq.{get_or-append_seam}
use Rattle.std.proofs.lemmas.Bool.{cases_lt}
use Rattle.std.proofs.lemmas.List.{append-nil, append_assoc, length-append, take_more}
use Rattle.std.proofs.lemmas.List.Edits.{length-insert, get_or-insert_at, get_or-insert_below, get_or-insert_above}
use Rattle.std.proofs.lemmas.List.Sorted.{All-permutation, IsPermutation-refl, IsPermutation-insert, IsPermutation-push_more}
use Rattle.std.proofs.lemmas.List.Sums.{fails_before_first, passes_at_first, prefix_len-le-length}
use Rattle.line_up.specs.Line.{put_in, put_in_each, line_of}

module _ {X : Type 0} (goes_before : X → X → Bool) where
  -- one of the two goes before the other
  abbrev pub IsDecided : X → X → Type 0
  IsDecided x y = (goes_before x y ≡ true) ⊎ (goes_before y x ≡ true)

  -- each entry goes before the next
  abbrev pub IsChain : List X → Type 0
  IsChain line = (k : ℕ) (d : X) → k + 1 < length line → goes_before (get_or line k d) (get_or line (k + 1) d) ≡ true

  reported : (a b x y : X) → a ≡ x → b ≡ y → goes_before x y ≡ true → goes_before a b ≡ true
  reported a b x y one other sure = rw (one, other) sure

  put_in_last : (line xs : List X) (x : X) → put_in_each goes_before line (xs ++ x ∷ []) ≡ put_in goes_before (put_in_each goes_before line xs) x
  put_in_last line [] x = refl
  put_in_last line (y ∷ xs) x = put_in_last (put_in goes_before line y) xs x

  -- one more member is inserted
  pub line_more : (xs : List X) (k : ℕ) (d : X) → k < length xs
      → line_of goes_before (take (k + 1) xs) ≡ put_in goes_before (line_of goes_before (take k xs)) (get_or xs k d)
  line_more xs k d inside = rw (take_more xs k d inside) (put_in_last [] (take k xs) (get_or xs k d))

  -- after an inserted entry, the others move by one
  chain_above : (line : List X) (at : ℕ) (x : X) → at ≤ length line → IsChain line
      → (j : ℕ) (d : X) → at ≤ j → j + 1 < length line → goes_before (get_or (insert line at x) (j + 1) d) (get_or (insert line at x) (j + 1 + 1) d) ≡ true
  chain_above line at x within chain j d above inside =
      reported _ _ _ _ (get_or-insert_above line at x d j above within) (get_or-insert_above line at x d (j + 1) (omega arith) within) (chain j d inside)

  -- x between two entries, where the first goes before x and x before the second
  chain_insert : (line : List X) (at : ℕ) (x : X) → at ≤ length line
      → ((k : ℕ) (d : X) → k < at → goes_before (get_or line k d) x ≡ true)
      → ((d : X) → at < length line → goes_before x (get_or line at d) ≡ true)
      → IsChain line → IsChain (insert line at x)
  chain_insert line at x within before following chain k d inside =
      let long : length (insert line at x) ≡ length line + 1 = length-insert line at x within in
      let short : k < length line = omega arith in
      elim (cases_lt k at) [
        | inl below ↦ elim (cases_lt (k + 1) at) [
          | inl next_below ↦
              reported _ _ _ _ (get_or-insert_below line at x d k below within) (get_or-insert_below line at x d (k + 1) next_below within)
              (chain k d (omega arith))
          | inr next_at ↦
              let same : at ≡ k + 1 = omega arith in
              reported _ _ _ _ (get_or-insert_below line at x d k below within)
              (subst (λ (i : ℕ). get_or (insert line at x) i d ≡ x) same (get_or-insert_at line at x d within)) (before k d below)
        ]
        | inr past ↦ elim (cases_lt at k) [
          | inl above ↦
              let last : (k - 1) + 1 ≡ k = omega arith in
              subst (λ (i : ℕ). goes_before (get_or (insert line at x) i d) (get_or (insert line at x) (i + 1) d) ≡ true) last
              (chain_above line at x within chain (k - 1) d (omega arith) (omega arith))
          | inr not_above ↦
              let same : at ≡ k = omega arith in
              reported _ _ _ _ (subst (λ (i : ℕ). get_or (insert line at x) i d ≡ x) same (get_or-insert_at line at x d within))
              (get_or-insert_above line at x d k (omega arith) within)
              (subst (λ (i : ℕ). goes_before x (get_or line i d) ≡ true) same (following d (omega arith)))
        ]
      ]

  -- where one of two items goes before the other, and x not before y, y goes before x
  before_first : (x y : X) → IsDecided x y → goes_before x y ≡ false → goes_before y x ≡ true
  before_first x y (inl sure) isnt = absurd (cc)
  before_first x y (inr sure) isnt = sure

  chain_put_in : (line : List X) (x : X) → All (IsDecided x) line → IsChain line → IsChain (put_in goes_before line x)
  chain_put_in line x decided chain =
      chain_insert line (position_or_len (goes_before x) line) x (prefix_len-le-length (λ y. not (goes_before x y)) line)
      (λ k d below.
      let inside : k < length line = omega (arith, prefix_len-le-length (λ y. not (goes_before x y)) line) in
      before_first x (get_or line k d) (decided k d inside) (fails_before_first (goes_before x) line k d below))
      (λ d inside. passes_at_first (goes_before x) line d inside)
      chain

  permutes_put_in : (seen line : List X) (x : X) → IsPermutation seen line → IsPermutation (seen ++ x ∷ []) (put_in goes_before line x)
  permutes_put_in seen line x same =
      IsPermutation-push_more seen line (put_in goes_before line x) x same (IsPermutation-insert line (position_or_len (goes_before x) line) x)

  permutes_from : (seen line xs : List X) → IsPermutation seen line → IsPermutation (seen ++ xs) (put_in_each goes_before line xs)
  permutes_from seen line [] same = subst (λ (s : List X). IsPermutation s line) (sym (append-nil seen)) same
  permutes_from seen line (x ∷ xs) same =
      subst (λ (s : List X). IsPermutation s (put_in_each goes_before (put_in goes_before line x) xs)) (append_assoc seen (x ∷ []) xs)
      (permutes_from (seen ++ x ∷ []) (put_in goes_before line x) xs (permutes_put_in seen line x same))

  -- a line holds each member once
  pub permutes : (xs : List X) → IsPermutation xs (line_of goes_before xs)
  permutes xs = permutes_from [] [] xs (IsPermutation-refl [])

  turned : (x y : X) → IsDecided y x → IsDecided x y
  turned x y (inl sure) = inr sure
  turned x y (inr sure) = inl sure

  decided_with : (seen xs : List X) (x : X) → AllPairs IsDecided (seen ++ x ∷ xs) → All (IsDecided x) seen
  decided_with seen xs x decided k d inside =
      let here : get_or (seen ++ x ∷ xs) k d ≡ get_or seen k d = get_or-append seen (x ∷ xs) d k inside in
      let there : get_or (seen ++ x ∷ xs) (length seen) d ≡ x = get_or-append_seam seen x xs d in
      let long : length seen < length (seen ++ x ∷ xs) = omega (arith, length-append seen (x ∷ xs)) in
      turned x (get_or seen k d) (subst (λ (y : X). IsDecided (get_or seen k d) y) there
      (subst (λ (y : X). IsDecided y (get_or (seen ++ x ∷ xs) (length seen) d)) here (decided k (length seen) d inside long)))

  chain_from : (seen line xs : List X) → IsPermutation seen line → AllPairs IsDecided (seen ++ xs) → IsChain line → IsChain (put_in_each goes_before line xs)
  chain_from seen line [] same decided chain = chain
  chain_from seen line (x ∷ xs) same decided chain =
      chain_from (seen ++ x ∷ []) (put_in goes_before line x) xs (permutes_put_in seen line x same)
      (subst (λ (s : List X). AllPairs IsDecided s) (sym (append_assoc seen (x ∷ []) xs)) decided)
      (chain_put_in line x (All-permutation (IsDecided x) seen line same (decided_with seen xs x decided)) chain)

  -- in the line of members any two of which are decided, each goes before the next
  pub chains : (xs : List X) → AllPairs IsDecided xs → IsChain (line_of goes_before xs)
  chains xs decided = chain_from [] [] xs (IsPermutation-refl []) decided (λ k d inside. absurd (omega arith))
