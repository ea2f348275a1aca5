-- The wanted ones of a list, moved to its front one after another.
use Rattle.std.proofs.Common.{◌≡◌, ℕ, ◌+◌, ◌<◌, ◌≤◌, List, [], ◌∷◌, ◌++◌, length, get_or, set, take, map, Bool, true, false, refl, sym, ap, ◌∙◌, inl, inr, arith}
use Rattle.std.specs.List.{swap}
use Rattle.std.proofs.lemmas.Bool.{cases_eq}
use Rattle.std.proofs.lemmas.List.{get_or-set_same, get_or-set_other, length-set, take_more, take-set-le}
use Rattle.std.proofs.lemmas.Simd.{map-map}
use Rattle.std.proofs.lemmas.List.Edits.{swap_is}
use Rattle.majority_graph.specs.declared.edge.Edge.{Edge}
use Rattle.majority_graph.specs.declared.ranks.Ranked.{Ranked}
use Rattle.seq_base.specs.declared.tx.Tx.{Tx}
use Rattle.majority_graph.specs.Graph.{Graph, wanted_of, kept_of}
use Rattle.majority_graph.specs.Ranks.{ranked_edge}
use Rattle.majority_graph.proofs.Wanted.{wanted_yes, map-wanted_of}

module _ {X : Type 0} (xs : List X) (i j : ℕ) (d : X) (low : i ≤ j) (inside : j < length xs) where
  abbrev ys : List X
  ys = set (set xs i (get_or xs j d)) j (get_or xs i d)

  first_set : length (set xs i (get_or xs j d)) ≡ length xs
  first_set = length-set xs i (get_or xs j d)

  there : get_or ys i d ≡ get_or xs j d
  there = elim (cases_eq i j) [
    | inl same ↦
        ap (λ (k : ℕ). get_or ys k d) same ∙ get_or-set_same (set xs i (get_or xs j d)) j (get_or xs i d) d (omega (arith, first_set, inside))
        ∙ ap (λ (k : ℕ). get_or xs k d) same
    | inr other ↦
        get_or-set_other (set xs i (get_or xs j d)) j i (get_or xs i d) d other ∙ get_or-set_same xs i (get_or xs j d) d (omega (arith, low, inside))
  ]

  -- the one at j comes after those before i
  taken_more : take (i + 1) (swap xs i j) ≡ take i xs ++ get_or xs j d ∷ []
  taken_more =
      ap (take (i + 1)) (sym (swap_is xs i j d (omega (arith, low, inside)) inside))
      ∙ take_more ys i d (omega (arith, length-set (set xs i (get_or xs j d)) j (get_or xs i d), first_set, low, inside))
      ∙ ap (λ (zs : List X). zs ++ get_or ys i d ∷ [])
      (take-set-le i (set xs i (get_or xs j d)) j (get_or xs i d) low ∙ take-set-le i xs i (get_or xs j d) (omega arith))
      ∙ ap (λ (x : X). take i xs ++ x ∷ []) there

  -- what stands after both is left
  swap_past : (k : ℕ) → j < k → get_or (swap xs i j) k d ≡ get_or xs k d
  swap_past k after =
      ap (λ (zs : List X). get_or zs k d) (sym (swap_is xs i j d (omega (arith, low, inside)) inside))
      ∙ get_or-set_other (set xs i (get_or xs j d)) j k (get_or xs i d) d (λ (same : k ≡ j). omega (arith, same, after))
      ∙ get_or-set_other xs i k (get_or xs j d) d (λ (same : k ≡ i). omega (arith, same, low, after))

pub gathered : {X : Type 0} (ws : List Bool) (old xs : List X) (count at : ℕ) → length ws ≡ length old → at < length ws → count ≤ at
    → length xs ≡ length old → get_or ws at false ≡ true
    → take count xs ≡ wanted_of (take at ws) (take at old) → ((k : ℕ) (d : X) → at ≤ k → get_or xs k d ≡ get_or old k d)
    → take (count + 1) (swap xs count at) ≡ wanted_of (take (at + 1) ws) (take (at + 1) old)
gathered ws old [] count at each inside low long is prefix rest = absurd (omega (arith, each, inside, long))
gathered {X} ws old (d ∷ xs) count at each inside low long is prefix rest =
    taken_more (d ∷ xs) count at d low (omega (arith, each, inside, long))
    ∙ ap (λ (zs : List X). zs ++ get_or (d ∷ xs) at d ∷ []) prefix
    ∙ ap (λ (x : X). wanted_of (take at ws) (take at old) ++ x ∷ []) (rest at d (omega arith))
    ∙ sym (wanted_yes ws old at d inside (omega (arith, each, inside)) is)

pub others_left : {X : Type 0} (old xs : List X) (count at : ℕ) → at < length xs → count ≤ at → ((k : ℕ) (d : X) → at ≤ k → get_or xs k d ≡ get_or old k d)
    → (k : ℕ) (d : X) → at + 1 ≤ k → get_or (swap xs count at) k d ≡ get_or old k d
others_left old xs count at inside low rest k d after = swap_past xs count at d low inside k (omega (arith, after)) ∙ rest k d (omega (arith, after))

-- the table of the wanted ones is what is wanted of the table
module _ {X Y : Type 0} (f : X → X → Y) (ws : List Bool) (all : List X) where
  rows_alike : (froms : List X) → map (λ u. map (f u) (wanted_of ws all)) froms ≡ map (λ u. wanted_of ws (map (f u) all)) froms
  rows_alike [] = refl
  rows_alike (u ∷ froms) =
      ap (λ (row : List Y). row ∷ map (λ v. map (f v) (wanted_of ws all)) froms) (map-wanted_of (f u) ws all)
      ∙ ap (λ (rows : List (List Y)). wanted_of ws (map (f u) all) ∷ rows) (rows_alike froms)

  pub kept_rows : map (λ u. map (f u) (wanted_of ws all)) (wanted_of ws all) ≡ map (wanted_of ws) (wanted_of ws (map (λ u. map (f u) all) all))
  kept_rows =
      rows_alike (wanted_of ws all)
      ∙ sym (map-map (wanted_of ws) (λ u. map (f u) all) (wanted_of ws all))
      ∙ ap (map (wanted_of ws)) (map-wanted_of (λ u. map (f u) all) ws all)

abbrev pub with_rows : List Tx → List (List Edge) → Graph
with_rows vertices edges = record { vertices = vertices; edges = edges }

abbrev graph_by : ℕ → List Ranked → Graph
graph_by threshold all = with_rows (map (λ r. r.tx) all) (map (λ u. map (ranked_edge threshold u) all) all)

pub kept_graph : (threshold : ℕ) (ws : List Bool) (all kept : List Ranked) → kept ≡ wanted_of ws all
    → graph_by threshold kept ≡ kept_of ws (graph_by threshold all)
kept_graph threshold ws all kept is =
    ap (graph_by threshold) is
    ∙ ap (λ (vertices : List Tx). with_rows vertices (map (λ u. map (ranked_edge threshold u) (wanted_of ws all)) (wanted_of ws all)))
    (map-wanted_of (λ r. r.tx) ws all)
    ∙ ap (with_rows (wanted_of ws (map (λ r. r.tx) all))) (kept_rows (ranked_edge threshold) ws all)
