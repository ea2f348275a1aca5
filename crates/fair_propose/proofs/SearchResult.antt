-- The invariant of the backward search.
use Rattle.std.proofs.Common.{◌≡◌, ◌≢◌, ℕ, ◌≤◌, List, [], ◌∷◌, length, get_or, map, Bool, true, false, refl, sym, ap, subst, ◌∙◌, inl, inr, arith}
use Rattle.std.specs.Prelude.{◌↔◌}
use Rattle.std.proofs.lemmas.Bool.{cases_lt, false≢true}
use Rattle.std.proofs.lemmas.List.{length-map, get_or-map, get_or_past}
use Rattle.majority_graph.specs.declared.edge.Edge.{Edge}
use Rattle.majority_graph.specs.declared.edge.Edge.TheVariants.{To, Missing}
use Rattle.majority_graph.specs.Graph.{Graph, IsGraph, edge_at, HasEdge}
use Rattle.majority_graph.specs.Walks.{Leads}
use Rattle.batch_laws.proofs.WalkJoins.{walk_edge, walk_join, walk_same}
use Rattle.walks.specs.declared.mark.Mark.{Mark}
use Rattle.walks.specs.declared.mark.Mark.TheVariants.{Unseen, Open, Done}
use Rattle.walks.specs.Marks.{is_followed, opened}
use Rattle.walks.proofs.MarkInvariant.{IsMarked, done_if_seen, done_is}
use Rattle.fair_propose.specs.Backward.{IsGoal, LeadsToGoal, begun}

-- every goal is seen, edges are followed backwards, and a walk leads from each seen vertex to a goal
abbrev pub IsSearch : Graph → List Bool → List Mark → Type 0
IsSearch g goals marks = IsMarked (λ v w. edge_at g w v) (IsGoal goals) (LeadsToGoal g goals) (length g.vertices) marks

-- initially the goals are open
begun_at : (goals : List Bool) (v : ℕ) → get_or (map begun goals) v Unseen ≡ begun (get_or goals v false)
begun_at goals v = elim (cases_lt v (length goals)) [
  | inl inside ↦ get_or-map begun goals v false Unseen inside
  | inr past ↦
      let none : get_or (map begun goals) v Unseen ≡ Unseen = get_or_past (map begun goals) v Unseen (omega (arith, length-map goals begun)) in
      none ∙ sym (ap begun (get_or_past goals v false past))
]

seen_is_goal : (b : Bool) → begun b ≢ Unseen → b ≡ true
seen_is_goal true seen = refl
seen_is_goal false seen = absurd (seen refl)

begun_not_done : (b : Bool) → begun b ≡ Done → ⊥
begun_not_done true is = (cc)
begun_not_done false is = (cc)

goal_is_open : (b : Bool) → b ≡ true → begun b ≢ Unseen
goal_is_open true is = λ same. (cc)
goal_is_open false is = absurd (false≢true is)

pub search_begun : (g : Graph) (goals : List Bool) (marks : List Mark) → length goals ≡ length g.vertices → marks ≡ map begun goals → IsSearch g goals marks
search_begun g goals marks long is = record {
  same_length = ap length is ∙ length-map goals begun ∙ long;
  begun = λ v goal unseen. goal_is_open (get_or goals v false) goal (sym (at v) ∙ unseen);
  sound = λ v seen. (v, seen_is_goal (get_or goals v false) (λ unseen. seen (at v ∙ unseen)), walk_same (HasEdge g) v v refl);
  closed = λ v w done edge. absurd (begun_not_done (get_or goals v false) (sym (at v) ∙ done));
}
  where
    at : (v : ℕ) → get_or marks v Unseen ≡ begun (get_or goals v false)
    at v = ap (λ (ms : List Mark). get_or ms v Unseen) is ∙ begun_at goals v

-- an edge to a vertex that leads to a goal leads to that goal too
pub leads_on : (g : Graph) (goals : List Bool) (at v : ℕ) → LeadsToGoal g goals at → edge_at g v at ≡ To → LeadsToGoal g goals v
leads_on g goals at v leads edge = (leads.0, leads.1, walk_join (HasEdge g) v at leads.0 (walk_edge (HasEdge g) v at edge) leads.2)

-- once no vertex is open, each vertex that leads to a goal is done
module _ (g : Graph) (goals : List Bool) (marks : List Mark) (search : IsSearch g goals marks) (none : (v : ℕ) → get_or marks v Unseen ≢ Open) where
  back_along : (a b : ℕ) (path : List ℕ) → Leads (HasEdge g) a path b → get_or marks b Unseen ≡ Done → get_or marks a Unseen ≡ Done
  back_along a b [] same done = subst (λ (k : ℕ). get_or marks k Unseen ≡ Done) (sym same) done
  back_along a b (x ∷ path) leads done = done_if_seen marks none a (search.closed x a (back_along x b path leads.1 done) leads.0)

  pub done_shows : (u : ℕ) → (get_or marks u Unseen ≡ Done) ↔ LeadsToGoal g goals u
  done_shows u = (
    (λ done. search.sound u (λ unseen. (cc))),
    (λ leads. back_along u leads.0 leads.2.0 leads.2.1 (done_if_seen marks none leads.0 (search.begun leads.0 leads.1))),
  )

-- the result by marks
pub answers : (g : Graph) (goals : List Bool) (marks : List Mark) (leading : List Bool) → leading ≡ map is_followed marks
    → ((u : ℕ) → (get_or marks u Unseen ≡ Done) ↔ LeadsToGoal g goals u) → (u : ℕ) → (get_or leading u false ≡ true) ↔ LeadsToGoal g goals u
answers g goals marks leading is shows u = (
  (λ yes'. (shows u).0 ((done_is (get_or marks u Unseen)).0 (sym at ∙ yes'))),
  (λ leads. at ∙ (done_is (get_or marks u Unseen)).1 ((shows u).1 leads)),
)
  where
    at : get_or leading u false ≡ is_followed (get_or marks u Unseen)
    at = ap (λ (bs : List Bool). get_or bs u false) is ∙ elim (cases_lt u (length marks)) [
      | inl inside ↦ get_or-map is_followed marks u Unseen false inside
      | inr past ↦
          (let none : get_or (map is_followed marks) u false ≡ false =
          get_or_past (map is_followed marks) u false (omega (arith, length-map marks is_followed)) in
          none ∙ sym (ap is_followed (get_or_past marks u Unseen past)))
    ]

-- there is no edge from past the last vertex
pub none_past : (g : Graph) (at : ℕ) (marks : List Mark) → IsGraph g → (v : ℕ) → length g.vertices ≤ v → length marks ≤ v
    → get_or marks v Unseen ≡ opened (edge_at g v at) (get_or marks v Unseen)
none_past g at marks graph v past following =
    let none : get_or g.edges v [] ≡ [] = get_or_past g.edges v [] (omega (arith, graph.rows)) in
    let missing : edge_at g v at ≡ Missing = ap (λ (row : List Edge). get_or row at Missing) none in
    let unseen : get_or marks v Unseen ≡ Unseen = get_or_past marks v Unseen following in
    unseen ∙ sym (ap (λ (e : Edge). opened e (get_or marks v Unseen)) missing ∙ ap (opened Missing) unseen)
