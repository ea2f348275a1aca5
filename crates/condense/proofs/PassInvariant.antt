-- The invariant of the pass.
use Rattle.std.proofs.Common.{◌≡◌, ◌≢◌, ℕ, ◌+◌, ◌<◌, ◌≤◌, List, [], length, get_or, Some, refl, sym, ap, subst, ◌∙◌, inl, inr, arith}
use Rattle.std.specs.Prelude.{◌⊎◌}
use Rattle.std.proofs.lemmas.Bool.{cases_lt}
use Rattle.std.proofs.lemmas.List.{get_or_past}
use Rattle.majority_graph.specs.declared.edge.Edge.{Edge}
use Rattle.majority_graph.specs.declared.edge.Edge.TheVariants.{Missing}
use Rattle.majority_graph.specs.Graph.{Graph, edge_at, HasEdge}
use Rattle.majority_graph.specs.Walks.{Walks}
use Rattle.condense.specs.declared.place.Place.{Place}
use Rattle.condense.specs.declared.place.Place.TheVariants.{Unseen, Open, Followed, Closed}
use Rattle.condense.specs.Places.{place_at, level_of, IsSettled}

-- in a component that was closed no later
abbrev pub IsClosedBy : ℕ → Place → Type 0
IsClosedBy c p = (b : ℕ) × (b ≤ c) × (p ≡ Closed b)

pub record IsPath (g : Graph) (places : List Place) (depth count : ℕ) : Type 0 where
  -- the levels of the path are those below the depth
  pub levels : (v k : ℕ) → level_of (place_at places v) ≡ Some k → k < depth
  pub filled : (k : ℕ) → k < depth → (v : ℕ) × (level_of (place_at places v) ≡ Some k)
  -- walks lead from each vertex of the path to each of its own level or below
  pub walked : (u v i j : ℕ) → i ≤ j → level_of (place_at places u) ≡ Some i → level_of (place_at places v) ≡ Some j → Walks (HasEdge g) v u
  -- the edges into a followed vertex are settled
  pub followed : (u v k : ℕ) → HasEdge g u v → place_at places v ≡ Followed k → IsSettled k (place_at places u)
  -- whatever leads into a component is closed no later
  pub ended : (u v c : ℕ) → HasEdge g u v → place_at places v ≡ Closed c → IsClosedBy c (place_at places u)
  -- walks lead from each vertex of a component to every other
  pub grouped : (u v c : ℕ) → place_at places u ≡ Closed c → place_at places v ≡ Closed c → Walks (HasEdge g) u v
  -- the numbers of the components are those below the count
  pub numbers : (v c : ℕ) → place_at places v ≡ Closed c → c < count
  pub used : (c : ℕ) → c < count → (v : ℕ) × (place_at places v ≡ Closed c)

-- seen, and not below this level
abbrev pub IsAbove : ℕ → Place → Type 0
IsAbove k Unseen = ⊥
IsAbove k (Open j) = k ≤ j
IsAbove k (Followed j) = k ≤ j
IsAbove k (Closed c) = Unit {0}

-- the edges into an open vertex, up to where the search resumes, come from vertices that are not below it
pub record ArePassed (g : Graph) (places : List Place) (resume : List ℕ) : Type 0 where
  pub same_length : length resume ≡ length g.vertices
  pub fresh : (v : ℕ) → place_at places v ≡ Unseen → get_or resume v 0 ≡ 0
  pub passed : (v k u : ℕ) → place_at places v ≡ Open k → u < get_or resume v 0 → HasEdge g u v → IsAbove k (place_at places u)

-- places

pub same_level : {a b : ℕ} → Some a ≡ Some b → a ≡ b
same_level same = cc

pub settled_seen : (k : ℕ) (p : Place) → IsSettled k p → p ≢ Unseen
settled_seen k Unseen settled = absurd settled
settled_seen k (Open j) settled = λ same. (cc)
settled_seen k (Followed j) settled = λ same. (cc)
settled_seen k (Closed c) settled = λ same. (cc)

pub settled_cases : (k : ℕ) (p : Place) → IsSettled k p → (level_of p ≡ Some k) ⊎ ((b : ℕ) × (p ≡ Closed b))
settled_cases k Unseen settled = absurd settled
settled_cases k (Open j) settled = inl (ap Some settled)
settled_cases k (Followed j) settled = inl (ap Some settled)
settled_cases k (Closed c) settled = inr (c, refl)

pub level_cases : (k : ℕ) (p : Place) → level_of p ≡ Some k → (p ≡ Open k) ⊎ (p ≡ Followed k)
level_cases k Unseen is = absurd (cc)
level_cases k (Open j) is = inl (ap Open (same_level is))
level_cases k (Followed j) is = inr (ap Followed (same_level is))
level_cases k (Closed c) is = absurd (cc)

pub settled_by_level : (k : ℕ) (p q : Place) → level_of q ≡ level_of p → ((c : ℕ) → p ≡ Closed c → q ≡ Closed c) → IsSettled k p → IsSettled k q
settled_by_level k p q same still settled = elim (settled_cases k p settled) [
  | inl is ↦ elim (level_cases k q (same ∙ is)) [
    | inl is_open ↦ subst (IsSettled k) (sym is_open) refl
    | inr is_followed ↦ subst (IsSettled k) (sym is_followed) refl
  ]
  | inr is ↦ subst (IsSettled k) (sym (still is.0 is.1)) tt
]

pub above_if_settled : (k : ℕ) (p : Place) → IsSettled k p → IsAbove k p
above_if_settled k Unseen settled = absurd settled
above_if_settled k (Open j) settled = omega arith
above_if_settled k (Followed j) settled = omega arith
above_if_settled k (Closed c) settled = tt

-- a vertex that is not below the top level is at it
pub settled_at_top : (top : ℕ) (p : Place) → ((k : ℕ) → level_of p ≡ Some k → k < top + 1) → IsAbove top p → IsSettled top p
settled_at_top top Unseen low above = absurd above
settled_at_top top (Open j) low above = omega (arith, low j refl)
settled_at_top top (Followed j) low above = omega (arith, low j refl)
settled_at_top top (Closed c) low above = tt

pub above_seen : (k : ℕ) (p : Place) → IsAbove k p → p ≢ Unseen
above_seen k Unseen above = absurd above
above_seen k (Open j) above = λ same. (cc)
above_seen k (Followed j) above = λ same. (cc)
above_seen k (Closed c) above = λ same. (cc)

-- a vertex that is seen exists
pub seen_inside : (places : List Place) (v : ℕ) → place_at places v ≢ Unseen → v < length places
seen_inside places v seen = elim (cases_lt v (length places)) [
  | inl inside ↦ inside
  | inr past ↦ absurd (seen (get_or_past places v Unseen past))
]

-- an edge leads from a vertex
pub edge_inside : (g : Graph) (u v : ℕ) → length g.edges ≡ length g.vertices → HasEdge g u v → u < length g.vertices
edge_inside g u v rows edge = elim (cases_lt u (length g.vertices)) [
  | inl inside ↦ inside
  | inr past ↦
      let none : get_or g.edges u [] ≡ [] = get_or_past g.edges u [] (omega arith) in
      let missing : edge_at g u v ≡ Missing = ap (λ (row : List Edge). get_or row v Missing) none in
      absurd (cc)
]
