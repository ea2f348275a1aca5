-- The invariant of a search from one vertex.
use Rattle.std.proofs.Common.{◌≡◌, ◌≢◌, ℕ, ◌<◌, List, [], ◌∷◌, length, get_or, map, Bool, true, false, refl, sym, ap, subst, ◌∙◌, inl, inr, arith, Vec, Global}
use Rattle.std.specs.Prelude.{◌↔◌, All}
use Rattle.std.proofs.lemmas.List.{get_or-map}
use Rattle.std.proofs.lemmas.Option.{slice_get_cases}
use Rattle.walks.specs.Reach.{reaches_in}
use Rattle.majority_graph.specs.Graph.{Graph, edge_at, HasEdge}
use Rattle.majority_graph.specs.Walks.{Leads, Walks}
use Rattle.walks.specs.declared.mark.Mark.{Mark}
use Rattle.walks.specs.declared.mark.Mark.TheVariants.{Unseen, Open, Done}
use Rattle.walks.specs.Marks.{is_followed}
use Rattle.walks.proofs.MarkInvariant.{IsMarked, done_if_seen, done_is}

-- it starts at one vertex, and a walk leads from there to all that is seen
abbrev pub IsSearch : Graph → ℕ → List Mark → Type 0
IsSearch g from marks = IsMarked (edge_at g) (λ v. v ≡ from) (Walks (HasEdge g) from) (length g.vertices) marks

-- where none is open, all that walks lead to is done
module _ (g : Graph) (from : ℕ) (marks : List Mark) (search : IsSearch g from marks) (none : (v : ℕ) → get_or marks v Unseen ≢ Open) where
  along : (a b : ℕ) (path : List ℕ) → Leads (HasEdge g) a path b → get_or marks a Unseen ≡ Done → get_or marks b Unseen ≡ Done
  along a b [] same done = subst (λ (k : ℕ). get_or marks k Unseen ≡ Done) same done
  along a b (x ∷ path) leads done = along x b path leads.1 (done_if_seen marks none x (search.closed a x done leads.0))

  pub walked : (v : ℕ) → Walks (HasEdge g) from v → get_or marks v Unseen ≡ Done
  walked v walk = along from v walk.0 walk.1 (done_if_seen marks none from (search.begun from refl))

  pub found : (v : ℕ) → get_or marks v Unseen ≡ Done → Walks (HasEdge g) from v
  found v done = search.sound v (λ unseen. (cc))

-- each row is the result of a search from its vertex
pub record AreSearched (g : Graph) (rows : List (Vec Mark Global)) : Type 0 where
  pub columns : All (λ (row : Vec Mark Global). length row.items ≡ length g.vertices) rows
  pub done : (u v : ℕ) (d : Vec Mark Global) → u < length rows → (get_or (get_or rows u d).items v Unseen ≡ Done) ↔ Walks (HasEdge g) u v

-- the answers are those of the searches
pub answers : (g : Graph) (rows : List (Vec Mark Global)) → AreSearched g rows → length rows ≡ length g.vertices → (u v : ℕ)
    → u < length g.vertices → v < length g.vertices
    → (reaches_in (map (λ (row : Vec Mark Global). map is_followed row.items) rows) u v ≡ true) ↔ Walks (HasEdge g) u v
answers g rows searched long u v from to =
    elim (slice_get_cases rows u).1 [
      | inl here ↦
          let row : Vec Mark Global = here.0 in
          let read : get_or rows u row ≡ row = here.3 in
          let columns : length row.items ≡ length g.vertices =
          subst (λ (r : Vec Mark Global). length r.items ≡ length g.vertices) read (searched.columns u row (omega arith)) in
          let walks : (get_or row.items v Unseen ≡ Done) ↔ Walks (HasEdge g) u v =
          subst (λ (r : Vec Mark Global). (get_or r.items v Unseen ≡ Done) ↔ Walks (HasEdge g) u v) read (searched.done u v row (omega arith)) in
          let answer : reaches_in (map (λ (row : Vec Mark Global). map is_followed row.items) rows) u v ≡ is_followed (get_or row.items v Unseen) =
          ap (λ (answers : List Bool). get_or answers v false)
          (get_or-map (λ (row : Vec Mark Global). map is_followed row.items) rows u row [] (omega arith)
          ∙ ap (λ (r : Vec Mark Global). map is_followed r.items) read)
          ∙ get_or-map is_followed row.items v Unseen false (omega arith) in
          ((λ yes'. walks.0 ((done_is (get_or row.items v Unseen)).0 (sym answer ∙ yes'))), (λ walk. answer ∙ ap is_followed (walks.1 walk)))
      | inr past ↦ absurd (omega (arith, past.0))
    ]
