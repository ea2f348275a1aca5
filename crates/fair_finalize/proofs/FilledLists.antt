-- The lists by number, while transactions are appended.
use Rattle.std.proofs.Common.{◌≡◌, ℕ, ◌+◌, ◌<◌, List, [], ◌∷◌, ◌++◌, length, get_or, set, take, map, Bool, false, Vec, Global, refl, sym, ap, ◌∙◌, inl, inr, arith}
use Rattle.std.specs.Prelude.{◌==◌}
use Rattle.std.proofs.lemmas.Bool.{cases_eq, eq-eqb}
use Rattle.std.proofs.lemmas.Bool.Decides.{eqb_tells}
use Rattle.std.proofs.lemmas.List.{get_or-map, get_or-set_same, get_or-set_other, length-map, length-set, map-append, map-set, same_lists, take-map}
use Rattle.std.proofs.lemmas.List.FromFn.{get_or-map-range_with_len, length-map-range_with_len, map-range_with_len_more}
use Rattle.seq_base.specs.declared.tx.Tx.{Tx}
use Rattle.majority_graph.specs.Graph.{wanted_of}
use Rattle.majority_graph.proofs.Wanted.{wanted_yes, wanted_no}
use Rattle.batch_laws.specs.Batches.{numbered, lists_of}
use Rattle.fair_finalize.specs.Filling.{with_one_more}

-- whether a number is this one
abbrev is_it : ℕ → ℕ → Bool
is_it c n = n == c

is_other : (n c : ℕ) → (n ≡ c → ⊥) → is_it c n ≡ false
is_other n c other = elim (eqb_tells n c) [
  | inl same ↦ absurd (other same.1)
  | inr differ ↦ differ.0
]

module _ (numbers : List ℕ) (txs : List Tx) (at : ℕ) (d : Tx) (here : at < length numbers) (there : at < length txs) where
  abbrev pub tx : Tx
  tx = get_or txs at d

  test_at : (c : ℕ) → get_or (map (is_it c) numbers) at false ≡ is_it c (get_or numbers at 0)
  test_at c = get_or-map (is_it c) numbers at 0 false here

  long : (c : ℕ) → at < length (map (is_it c) numbers)
  long c = omega (arith, length-map numbers (is_it c), here)

  -- the list of its number gets it
  one_more : (c : ℕ) → get_or numbers at 0 ≡ c → numbered (take (at + 1) numbers) (take (at + 1) txs) c ≡ numbered (take at numbers) (take at txs) c ++ tx ∷ []
  one_more c same =
      ap (λ (ws : List Bool). wanted_of ws (take (at + 1) txs)) (sym (take-map (is_it c) (at + 1) numbers))
      ∙ wanted_yes (map (is_it c) numbers) txs at d (long c) there (test_at c ∙ eq-eqb (get_or numbers at 0) c same)
      ∙ ap (λ (ws : List Bool). wanted_of ws (take at txs) ++ tx ∷ []) (take-map (is_it c) at numbers)

  -- and no other
  no_more : (c : ℕ) → (get_or numbers at 0 ≡ c → ⊥) → numbered (take (at + 1) numbers) (take (at + 1) txs) c ≡ numbered (take at numbers) (take at txs) c
  no_more c other =
      ap (λ (ws : List Bool). wanted_of ws (take (at + 1) txs)) (sym (take-map (is_it c) (at + 1) numbers))
      ∙ wanted_no (map (is_it c) numbers) txs at (long c) (test_at c ∙ is_other (get_or numbers at 0) c other)
      ∙ ap (λ (ws : List Bool). wanted_of ws (take at txs)) (take-map (is_it c) at numbers)

  pub filled : (count : ℕ) → get_or numbers at 0 < count
      → with_one_more (lists_of (take at numbers) count (take at txs)) (get_or numbers at 0) tx ≡ lists_of (take (at + 1) numbers) count (take (at + 1) txs)
  filled count below =
      same_lists (with_one_more old n tx) (lists_of (take (at + 1) numbers) count (take (at + 1) txs))
      (length-set old n (get_or old n [] ++ tx ∷ []) ∙ size_old ∙ sym size_new)
      (λ k e inside.
      let within : k < count = omega (arith, length-set old n (get_or old n [] ++ tx ∷ []), size_old, inside) in
      let new : get_or (lists_of (take (at + 1) numbers) count (take (at + 1) txs)) k e ≡ numbered (take (at + 1) numbers) (take (at + 1) txs) k =
      get_or-map-range_with_len (numbered (take (at + 1) numbers) (take (at + 1) txs)) 0 count k k e within (omega arith) in
      elim (cases_eq n k) [
        | inl same ↦
            let before : get_or old n [] ≡ numbered (take at numbers) (take at txs) n =
            get_or-map-range_with_len (numbered (take at numbers) (take at txs)) 0 count n n [] below (omega arith) in
            ap (λ (j : ℕ). get_or (with_one_more old n tx) j e) (sym same)
            ∙ get_or-set_same old n (get_or old n [] ++ tx ∷ []) e (omega (arith, size_old, below))
            ∙ ap (λ (list : List Tx). list ++ tx ∷ []) before
            ∙ sym (one_more n refl)
            ∙ ap (numbered (take (at + 1) numbers) (take (at + 1) txs)) same
            ∙ sym new
        | inr other ↦
            get_or-set_other old n k (get_or old n [] ++ tx ∷ []) e (λ (same : k ≡ n). other (sym same))
            ∙ get_or-map-range_with_len (numbered (take at numbers) (take at txs)) 0 count k k e within (omega arith)
            ∙ sym (no_more k other)
            ∙ sym new
      ])
    where
      n : ℕ
      n = get_or numbers at 0

      old : List (List Tx)
      old = lists_of (take at numbers) count (take at txs)

      size_old : length old ≡ count
      size_old = length-map-range_with_len (numbered (take at numbers) (take at txs)) 0 count

      size_new : length (lists_of (take (at + 1) numbers) count (take (at + 1) txs)) ≡ count
      size_new = length-map-range_with_len (numbered (take (at + 1) numbers) (take (at + 1) txs)) 0 count

abbrev pub items_of : List (Vec Tx Global) → List (List Tx)
items_of lists = map (λ (list : Vec Tx Global). list.items) lists

pub as_many : (lists : List (Vec Tx Global)) (numbers : List ℕ) (count : ℕ) (txs : List Tx) → items_of lists ≡ lists_of numbers count txs → length lists ≡ count
as_many lists numbers count txs are =
    sym (length-map lists (λ (list : Vec Tx Global). list.items)) ∙ ap length are ∙ length-map-range_with_len (numbered numbers txs) 0 count

pub one_empty_more : (lists : List (Vec Tx Global)) (n : ℕ) (list : Vec Tx Global) → list.items ≡ [] → items_of lists ≡ lists_of [] n []
    → items_of (lists ++ list ∷ []) ≡ lists_of [] (n + 1) []
one_empty_more lists n list none before =
    map-append (λ (one : Vec Tx Global). one.items) lists (list ∷ [])
    ∙ ap (λ (last : List Tx). items_of lists ++ last ∷ []) none
    ∙ ap (λ (ls : List (List Tx)). ls ++ [] ∷ []) before
    ∙ sym (map-range_with_len_more (numbered [] []) 0 n n (omega arith))

pub one_is_put : (lists : List (Vec Tx Global)) (at : ℕ) (old new : Vec Tx Global) (tx : Tx) → at < length lists → old ≡ get_or lists at old
    → new.items ≡ old.items ++ tx ∷ []
    → items_of (set lists at new) ≡ with_one_more (items_of lists) at tx
one_is_put lists at old new tx inside read is =
    map-set (λ (one : Vec Tx Global). one.items) lists at new
    ∙ ap (λ (items : List Tx). set (items_of lists) at items) is
    ∙ ap (λ (items : List Tx). set (items_of lists) at (items ++ tx ∷ []))
    (ap (λ (one : Vec Tx Global). one.items) read ∙ sym (get_or-map (λ (one : Vec Tx Global). one.items) lists at old [] inside))
