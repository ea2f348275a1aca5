-- A batch by its place in the final list.
use Rattle.std.proofs.Common.{◌≡◌, ℕ, zero, suc, ◌+◌, ◌-◌, ◌<◌, ◌≤◌, List, [], ◌∷◌, ◌++◌, length, map, drop, get_or, slice_get, refl, ap, ◌∙◌, arith}
use Rattle.std.proofs.lemmas.List.{drop_more}
use Rattle.seq_base.specs.declared.tx.Tx.{Tx}
use Rattle.chain_state.specs.declared.standing.Standing.{Standing}
use Rattle.chain_state.specs.Shown.{shown}
use Rattle.chain_state.specs.Standings.{Stage, closed_batches}
use Rattle.chain_state.specs.Standings.Stage.{Closed}

get_before : {X : Type 0} (xs ys : List X) (k : ℕ) → k < length xs → slice_get (xs ++ ys) k ≡ slice_get xs k
get_before [] ys k below = absurd (omega arith)
get_before (x ∷ xs) ys zero below = refl
get_before (x ∷ xs) ys (suc k) below = get_before xs ys k (omega arith)

get_after : {X : Type 0} (xs ys : List X) (k : ℕ) → length xs ≤ k → slice_get (xs ++ ys) k ≡ slice_get ys (k - length xs)
get_after [] ys k past = ap (slice_get ys) (let same : k ≡ k - 0 = omega arith in same)
get_after (x ∷ xs) ys zero past = absurd (omega arith)
get_after (x ∷ xs) ys (suc k) past =
    get_after xs ys k (omega arith) ∙ ap (slice_get ys) (let same : k - length xs ≡ suc k - suc (length xs) = omega arith in same)

-- the batches from a closed proposal on
closed_here : (xs : List Standing) (i : ℕ) (d : Standing) (batches : List (List Tx)) → i < length xs → shown (get_or xs i d) ≡ Closed batches
    → closed_batches (map shown (drop i xs)) ≡ batches ++ closed_batches (map shown (drop (i + 1) xs))
closed_here xs i d batches below is =
    ap (λ (ys : List Standing). closed_batches (map shown ys)) (drop_more xs i d below)
    ∙ ap (λ (s : Stage). closed_batches (s ∷ map shown (drop (i + 1) xs))) is

module _ (xs : List Standing) (i left : ℕ) (d : Standing) (batches : List (List Tx)) (below : i < length xs) (is : shown (get_or xs i d) ≡ Closed batches) where
  abbrev rest : List (List Tx)
  rest = closed_batches (map shown (drop (i + 1) xs))

  -- the place is in this proposal's batches
  pub batch_here : left < length batches → slice_get (closed_batches (map shown (drop i xs))) left ≡ slice_get batches left
  batch_here within = ap (λ (bs : List (List Tx)). slice_get bs left) (closed_here xs i d batches below is) ∙ get_before batches rest left within

  -- the place is after them
  pub batch_later : length batches ≤ left → slice_get (closed_batches (map shown (drop i xs))) left ≡ slice_get rest (left - length batches)
  batch_later past = ap (λ (bs : List (List Tx)). slice_get bs left) (closed_here xs i d batches below is) ∙ get_after batches rest left past
