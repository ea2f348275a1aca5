-- Whether a walk leads from one vertex to another is decidable. In a complete graph, one leads at least one way.
use Rattle.std.proofs.Common.{ℕ, suc, zero, ◌≡◌, ◌<◌, ◌≤◌, List, [], ◌∷◌, length, get_or, true, refl, sym, ap, subst, ◌∙◌, inl, inr, arith, eqb}
use Rattle.std.specs.Prelude.{◌⊎◌, ◌&&◌}
use Rattle.std.proofs.lemmas.Bool.{cases_eq, cases_lt, cases_order, cases_Bool, or_cases, or_left, or_right, and_parts, and_from, eqb-true, eq-eqb, false≢true}
use Rattle.std.proofs.lemmas.List.{get_or_past}
use Rattle.std.proofs.lemmas.List.Elements.{All-get_or}
use Rattle.majority_graph.specs.declared.edge.Edge.{Edge}
use Rattle.majority_graph.specs.declared.edge.Edge.TheVariants.{To, From, Missing}
use Rattle.majority_graph.specs.Graph.{Graph, IsGraph, IsComplete, HasEdge, edge_at}
use Rattle.majority_graph.specs.Walks.{Leads, Walks}
use Rattle.majority_graph.proofs.EdgeLaws.{edge_in_complete}
use Rattle.batch_laws.specs.Reached.{is_to, via, reaches, ReportWalks}
use Rattle.batch_laws.specs.Batches.{InOneBatch, IsEarlier, IsNumbering, IsLine}
use Rattle.batch_laws.proofs.WalkJoins.{walk_join, walk_edge, walk_same, walk_keeps}

pub is_to_shows : (e : Edge) → is_to e ≡ true → e ≡ To
is_to_shows To is = refl
is_to_shows From is = (cc)
is_to_shows Missing is = (cc)

pub is_to_from : (e : Edge) → e ≡ To → is_to e ≡ true
is_to_from e is = ap is_to is

-- an edge is between vertices
pub edge_inside : (g : Graph) (u v : ℕ) → IsGraph g → HasEdge g u v → (u < length g.vertices) × (v < length g.vertices)
edge_inside g u v graph edge =
    elim (cases_lt u (length g.vertices)) [
      | inl from ↦ elim (cases_lt v (length g.vertices)) [
        | inl to ↦ (from, to)
        | inr past ↦
            let row : length (get_or g.edges u []) ≡ length g.vertices =
            All-get_or (λ (r : List Edge). length r ≡ length g.vertices) g.edges u [] (omega (arith, graph.rows)) graph.columns in
            absurd (cc (get_or_past (get_or g.edges u []) v Missing (omega arith), edge))
      ]
      | inr past ↦
          let none : get_or g.edges u [] ≡ [] = get_or_past g.edges u [] (omega (arith, graph.rows)) in
          let missing : get_or (get_or g.edges u []) v Missing ≡ Missing =
          ap (λ (r : List Edge). get_or r v Missing) none ∙ get_or_past [] v Missing (omega arith) in
          absurd (cc (missing, edge))
    ]

pub via_sound : (g : Graph) (k u v : ℕ) → via g k u v ≡ true → Walks (HasEdge g) u v
via_sound g zero u v is =
    elim (or_cases (eqb u v) (is_to (edge_at g u v)) is) [
      | inl same ↦ walk_same (HasEdge g) u v (eqb-true u v same)
      | inr edge ↦ walk_edge (HasEdge g) u v (is_to_shows (edge_at g u v) edge)
    ]
via_sound g (suc k) u v is =
    elim (or_cases (via g k u v) (via g k u k && via g k k v) is) [
      | inl before ↦ via_sound g k u v before
      | inr both ↦
          let parts = and_parts (via g k u k) (via g k k v) both in
          walk_join (HasEdge g) u k v (via_sound g k u k parts.0) (via_sound g k k v parts.1)
    ]

via_same : (g : Graph) (k a : ℕ) → via g k a a ≡ true
via_same g zero a = or_left (eqb a a) (is_to (edge_at g a a)) (eq-eqb a a refl)
via_same g (suc k) a = or_left (via g k a a) (via g k a k && via g k k a) (via_same g k a)

via_edge : (g : Graph) (k a b : ℕ) → HasEdge g a b → via g k a b ≡ true
via_edge g zero a b edge = or_right (eqb a b) (is_to (edge_at g a b)) (is_to_from (edge_at g a b) edge)
via_edge g (suc k) a b edge = or_left (via g k a b) (via g k a k && via g k k b) (via_edge g k a b edge)

to_k : (g : Graph) (k u : ℕ) → via g (suc k) u k ≡ true → via g k u k ≡ true
to_k g k u is =
    elim (or_cases (via g k u k) (via g k u k && via g k k k) is) [
      | inl before ↦ before
      | inr both ↦ (and_parts (via g k u k) (via g k k k) both).0
    ]

from_k : (g : Graph) (k v : ℕ) → via g (suc k) k v ≡ true → via g k k v ≡ true
from_k g k v is =
    elim (or_cases (via g k k v) (via g k k k && via g k k v) is) [
      | inl before ↦ before
      | inr both ↦ (and_parts (via g k k k) (via g k k v) both).1
    ]

around : (g : Graph) (k u v : ℕ) → via g k u k ≡ true → via g k k v ≡ true → via g (suc k) u v ≡ true
around g k u v one other = or_right (via g k u v) (via g k u k && via g k k v) (and_from (via g k u k) (via g k k v) one other)

via_through : (g : Graph) (k u j v : ℕ) → j < k → via g k u j ≡ true → via g k j v ≡ true → via g k u v ≡ true
via_through g zero u j v below one other = absurd (omega arith)
via_through g (suc k) u j v below one other =
    elim (cases_eq j k) [
      | inl same ↦
          around g k u v
          (to_k g k u (subst (λ (x : ℕ). via g (suc k) u x ≡ true) same one))
          (from_k g k v (subst (λ (x : ℕ). via g (suc k) x v ≡ true) same other))
      | inr apart ↦
          let less : j < k = omega arith in
          elim (or_cases (via g k u j) (via g k u k && via g k k j) one) [
            | inl a ↦ elim (or_cases (via g k j v) (via g k j k && via g k k v) other) [
              | inl b ↦ or_left (via g k u v) (via g k u k && via g k k v) (via_through g k u j v less a b)
              | inr b ↦
                  let parts = and_parts (via g k j k) (via g k k v) b in
                  around g k u v (via_through g k u j k less a parts.0) parts.1
            ]
            | inr a ↦
                let first = and_parts (via g k u k) (via g k k j) a in
                elim (or_cases (via g k j v) (via g k j k && via g k k v) other) [
                  | inl b ↦ around g k u v first.0 (via_through g k k j v less first.1 b)
                  | inr b ↦ around g k u v first.0 (and_parts (via g k j k) (via g k k v) b).1
                ]
          ]
    ]

via_leads : (g : Graph) (graph : IsGraph g) (a b : ℕ) (path : List ℕ) → Leads (HasEdge g) a path b → via g (length g.vertices) a b ≡ true
via_leads g graph a b [] same = subst (λ (x : ℕ). via g (length g.vertices) a x ≡ true) same (via_same g (length g.vertices) a)
via_leads g graph a b (x ∷ path) leads =
    via_through g (length g.vertices) a x b (edge_inside g a x graph leads.0).1
    (via_edge g (length g.vertices) a x leads.0)
    (via_leads g graph x b path leads.1)

pub via_walk : (g : Graph) (graph : IsGraph g) (a b : ℕ) → Walks (HasEdge g) a b → via g (length g.vertices) a b ≡ true
via_walk g graph a b walk = via_leads g graph a b walk.0 walk.1

-- the computed answers agree with walks
pub reaches_show : (g : Graph) → IsGraph g → ReportWalks g (reaches g)
reaches_show g graph u v from to = (via_sound g (length g.vertices) u v, via_walk g graph u v)

pub walks_decided : (g : Graph) (graph : IsGraph g) (u v : ℕ) → Walks (HasEdge g) u v ⊎ (Walks (HasEdge g) u v → ⊥)
walks_decided g graph u v =
    elim (cases_Bool (via g (length g.vertices) u v)) [
      | inl is ↦ inl (via_sound g (length g.vertices) u v is)
      | inr isnt ↦ inr (λ walk. false≢true (sym isnt ∙ via_walk g graph u v walk))
    ]

module _ (g : Graph) (graph : IsGraph g) (complete : IsComplete g) where
  pub one_leads : (u v : ℕ) → u < length g.vertices → v < length g.vertices → Walks (HasEdge g) u v ⊎ Walks (HasEdge g) v u
  one_leads u v from to =
      elim (cases_eq u v) [
        | inl same ↦ inl (walk_same (HasEdge g) u v same)
        | inr apart ↦ elim (edge_in_complete g u v graph complete from to apart) [
          | inl edge ↦ inl (walk_edge (HasEdge g) u v edge)
          | inr edge ↦ inr (walk_edge (HasEdge g) v u edge)
        ]
      ]

  -- of two vertices, one is in an earlier batch, or they are in the same batch
  pub in_line : (u v : ℕ) → u < length g.vertices → v < length g.vertices → IsEarlier g u v ⊎ (InOneBatch g u v ⊎ IsEarlier g v u)
  in_line u v from to =
      elim (walks_decided g graph u v) [
        | inl there ↦ elim (walks_decided g graph v u) [
          | inl back ↦ inr (inl (there, back))
          | inr never ↦ inl (there, never)
        ]
        | inr never ↦ elim (one_leads u v from to) [
          | inl there ↦ absurd (never there)
          | inr back ↦ inr (inr (back, never))
        ]
      ]

  -- each edge leads from the earlier of two batches to the later
  pub edge_to_later : (u v : ℕ) → u < length g.vertices → v < length g.vertices → IsEarlier g u v → HasEdge g u v
  edge_to_later u v from to earlier =
      elim (cases_eq u v) [
        | inl same ↦ absurd (earlier.1 (walk_same (HasEdge g) v u (sym same)))
        | inr apart ↦ elim (edge_in_complete g u v graph complete from to apart) [
          | inl edge ↦ edge
          | inr edge ↦ absurd (earlier.1 (walk_edge (HasEdge g) v u edge))
        ]
      ]

pub earlier_join : (g : Graph) (u v w : ℕ) → IsEarlier g u v → IsEarlier g v w → IsEarlier g u w
earlier_join g u v w one other =
    (walk_join (HasEdge g) u v w one.0 other.0, λ back. one.1 (walk_join (HasEdge g) v w u other.0 back))

pub earlier_alike : (g : Graph) (u v x y : ℕ) → IsEarlier g u v → InOneBatch g u x → InOneBatch g v y → IsEarlier g x y
earlier_alike g u v x y earlier one other = (
  walk_join (HasEdge g) x u y one.1 (walk_join (HasEdge g) u v y earlier.0 other.0),
  λ back. earlier.1 (walk_join (HasEdge g) v y u other.0 (walk_join (HasEdge g) y x u back one.1)),
)

pub same_join : (g : Graph) (u v w : ℕ) → InOneBatch g u v → InOneBatch g v w → InOneBatch g u w
same_join g u v w one other = (walk_join (HasEdge g) u v w one.0 other.0, walk_join (HasEdge g) w v u other.1 one.1)

-- the numbers never decrease along a walk
pub numbers_rise : (g : Graph) (number : ℕ → ℕ) → IsGraph g → IsNumbering g number → (u v : ℕ) → Walks (HasEdge g) u v → number u ≤ number v
numbers_rise g number graph numbering u v walk =
    walk_keeps (HasEdge g) (λ x. number u ≤ number x)
    (λ x y here edge.
    let inside = edge_inside g x y graph edge in
    let more : number x ≤ number y = numbering.rises x y inside.0 inside.1 edge in
    omega arith)
    u v walk (omega arith)

-- a lower number is that of an earlier batch
pub lower_is_earlier : (g : Graph) (number : ℕ → ℕ) → IsGraph g → IsComplete g → IsNumbering g number → (u v : ℕ) → u < length g.vertices
    → v < length g.vertices → number u < number v → IsEarlier g u v
lower_is_earlier g number graph complete numbering u v from to lower =
    elim (in_line g graph complete u v from to) [
      | inl earlier ↦ earlier
      | inr (inl one) ↦
          let same : number u ≡ number v = (numbering.same u v from to).1 one in
          absurd (omega arith)
      | inr (inr later) ↦
          let rise : number v ≤ number u = numbers_rise g number graph numbering v u later.0 in
          absurd (omega arith)
    ]

pub earlier_is_lower : (g : Graph) (number : ℕ → ℕ) → IsGraph g → IsNumbering g number → (u v : ℕ) → u < length g.vertices
    → v < length g.vertices → IsEarlier g u v → number u < number v
earlier_is_lower g number graph numbering u v from to earlier =
    let rise : number u ≤ number v = numbers_rise g number graph numbering u v earlier.0 in
    elim (cases_eq (number u) (number v)) [
      | inl same ↦ absurd (earlier.1 ((numbering.same u v from to).0 same).1)
      | inr apart ↦ omega arith
    ]

-- Two lines of the same complete graph are equal.
module _ (g : Graph) (graph : IsGraph g) (complete : IsComplete g) (one other : ℕ → ℕ) (count : ℕ) (first : IsLine g one count)
    (second : IsNumbering g other) where
  no_higher : (c u : ℕ) → u < length g.vertices → one u ≡ c → c ≤ other u
  no_higher zero u inside is = omega arith
  no_higher (suc c) u inside is =
      let room : one u < count = first.below u inside in
      let before = first.used c (omega arith) in
      let lower : one before.0 < one u = omega (arith, before.2) in
      let earlier : IsEarlier g before.0 u = lower_is_earlier g one graph complete first.numbering before.0 u before.1 inside lower in
      let rest : c ≤ other before.0 = no_higher c before.0 before.1 before.2 in
      let less : other before.0 < other u = earlier_is_lower g other graph second before.0 u before.1 inside earlier in
      omega arith

  pub line_is_low : (u : ℕ) → u < length g.vertices → one u ≤ other u
  line_is_low u inside = no_higher (one u) u inside refl

module _ (g : Graph) (graph : IsGraph g) (complete : IsComplete g) (one other : ℕ → ℕ) (count many : ℕ) (first : IsLine g one count)
    (second : IsLine g other many) where
  pub same_numbers : (u : ℕ) → u < length g.vertices → one u ≡ other u
  same_numbers u inside =
      let low = line_is_low g graph complete one other count first second.numbering u inside in
      let high = line_is_low g graph complete other one many second first.numbering u inside in
      omega arith

  pub same_count : count ≡ many
  same_count =
      elim (cases_order count many) [
        | inl same ↦ same
        | inr (inl less) ↦
            let last = second.used count less in
            let room : one last.0 < count = first.below last.0 last.1 in
            absurd (omega (arith, same_numbers last.0 last.1, last.2))
        | inr (inr more) ↦
            let last = first.used many more in
            let room : other last.0 < many = second.below last.0 last.1 in
            absurd (omega (arith, same_numbers last.0 last.1, last.2))
      ]
