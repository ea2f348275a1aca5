-- Where few lists hold b without an earlier a, a is kept with b, and the edge between them leads to b.
use Rattle.std.proofs.Common.{◌≡◌, ◌≢◌, ℕ, ◌+◌, ◌*◌, ◌<◌, ◌≤◌, List, [], ◌∷◌, Bool, true, false, cond, not, Some, length, take, suc, refl, sym, ap, subst, ◌∙◌, inl, inr, arith}
use Rattle.std.specs.Prelude.{◌&&◌, ◌||◌, slice_get}
use Rattle.std.specs.List.{before_first, position_or_len}
use Rattle.std.specs.Ordering.{is_lt}
use Rattle.std.proofs.lemmas.Bool.{cases_Bool, false_from_ne_true}
use Rattle.std.proofs.lemmas.Bool.Decides.{nat_tests}
use Rattle.std.proofs.lemmas.Option.{slice_get_cases}
use Rattle.seq_base.specs.declared.tx.Tx.{Tx}
use Rattle.seq_base.specs.Lists.{holds, listed}
use Rattle.seq_base.specs.Tx.{tx_cmp, tx_eq, tx_eq_decides}
use Rattle.seq_base.specs.Setting.{Parameters, threshold_of, solid_of}
use Rattle.seq_base.proofs.Points.{point}
use Rattle.majority_graph.specs.declared.edge.Edge.{Edge}
use Rattle.majority_graph.specs.declared.edge.Edge.TheVariants.{To, From, Missing}
use Rattle.majority_graph.specs.Edges.{outweighs, gives_edge, edge_between, opposite_of}
use Rattle.majority_graph.specs.Graph.{IsComplete, HasEdge, graph_of, edge_at}
use Rattle.majority_graph.specs.Walks.{Walks}
use Rattle.majority_graph.specs.Weights.{ranks_above, weight}
use Rattle.majority_graph.proofs.EdgeLaws.{edge_of_places, edge_opposite}
use Rattle.majority_graph.proofs.Solid.{solid_edge, listed_is_weighed}
use Rattle.batch_laws.proofs.WalkJoins.{walk_edge}
use Rattle.batch_laws.proofs.Counts.{count-cons}
use Rattle.fair_laws.specs.Kept.{IsSolid, GiveEdge, LeadsOn, IsKept}
use Rattle.fair_laws.specs.Earlier.{holds_without_earlier, without_earlier, IsOwed}

other_tx : (x a b : Tx) → a ≢ b → tx_eq x a ≡ true → tx_eq x b ≡ false
other_tx x a b apart is = false_from_ne_true (tx_eq x b) (λ also. apart (sym ((tx_eq_decides x a).0 is) ∙ (tx_eq_decides x b).0 also))

-- an item that is not the searched one comes before it
before_next : (p : Tx → Bool) (x : Tx) (xs : List Tx) → p x ≡ false → before_first p (x ∷ xs) ≡ x ∷ before_first p xs
before_next p x xs fails =
    let far : 1 + position_or_len p xs ≡ suc (position_or_len p xs) = omega arith in
    ap (λ (c : Bool). take (cond (not c) (1 + position_or_len p xs) 0) (x ∷ xs)) fails ∙ ap (λ (n : ℕ). take n (x ∷ xs)) far

first_here : (b a x : Tx) (xs : List Tx) → tx_eq x b ≡ true → holds_without_earlier b a (x ∷ xs) ≡ true
first_here b a x xs is_b = rw is_b refl

first_after : (b a x : Tx) (xs : List Tx) → tx_eq x b ≡ false
    → holds_without_earlier b a (x ∷ xs) ≡ (holds b xs && not (tx_eq x a || holds a (before_first (λ y. tx_eq y b) xs)))
first_after b a x xs not_b =
    ap (λ (c : Bool). (c || holds b xs) && not (holds a (before_first (λ y. tx_eq y b) (x ∷ xs)))) not_b
    ∙ ap (λ (prefix : List Tx). holds b xs && not (holds a prefix)) (before_next (λ y. tx_eq y b) x xs not_b)

-- a list that holds b without an earlier a ranks b above a
pub ranks_without_earlier : (a b : Tx) (xs : List Tx) → a ≢ b → ranks_above b a xs ≡ holds_without_earlier b a xs
ranks_without_earlier a b [] apart = refl
ranks_without_earlier a b (x ∷ xs) apart =
    elim (cases_Bool (tx_eq x a)) [
      | inl is_a ↦
          ap (λ (c : Bool). cond c false (cond (tx_eq x b) true (ranks_above b a xs))) is_a
          ∙ sym (and_never (holds b xs))
          ∙ ap (λ (c : Bool). holds b xs && not (c || holds a (before_first (λ y. tx_eq y b) xs))) (sym is_a)
          ∙ sym (first_after b a x xs (other_tx x a b apart is_a))
      | inr not_a ↦ elim (cases_Bool (tx_eq x b)) [
        | inl is_b ↦
            ap (λ (c : Bool). cond c false (cond (tx_eq x b) true (ranks_above b a xs))) not_a
            ∙ ap (λ (c : Bool). cond c true (ranks_above b a xs)) is_b
            ∙ sym (first_here b a x xs is_b)
        | inr not_b ↦
            ap (λ (c : Bool). cond c false (cond (tx_eq x b) true (ranks_above b a xs))) not_a
            ∙ ap (λ (c : Bool). cond c true (ranks_above b a xs)) not_b
            ∙ ranks_without_earlier a b xs apart
            ∙ ap (λ (c : Bool). holds b xs && not (c || holds a (before_first (λ y. tx_eq y b) xs))) (sym not_a)
            ∙ sym (first_after b a x xs not_b)
      ]
    ]
  where
    and_never : (c : Bool) → (c && false) ≡ false
    and_never true = refl
    and_never false = refl

pub weight_is : (lists : List (List Tx)) (a b : Tx) → a ≢ b → weight lists b a ≡ without_earlier lists b a
weight_is [] a b apart = refl
weight_is (xs ∷ lists) a b apart =
    count-cons (ranks_above b a) xs lists
    ∙ ap (λ (n : ℕ). point (ranks_above b a xs) + n) (weight_is lists a b apart)
    ∙ ap (λ (c : Bool). point c + without_earlier lists b a) (ranks_without_earlier a b xs apart)
    ∙ sym (count-cons (holds_without_earlier b a) xs lists)

-- each list that holds b holds it without an earlier b
own_first : (b : Tx) (xs : List Tx) → holds_without_earlier b b xs ≡ holds b xs
own_first b [] = refl
own_first b (x ∷ xs) =
    elim (cases_Bool (tx_eq x b)) [
      | inl is_b ↦ first_here b b x xs is_b ∙ ap (λ (c : Bool). c || holds b xs) (sym is_b)
      | inr not_b ↦
          first_after b b x xs not_b
          ∙ ap (λ (c : Bool). holds b xs && not (c || holds b (before_first (λ y. tx_eq y b) xs))) not_b
          ∙ own_first b xs
          ∙ ap (λ (c : Bool). c || holds b xs) (sym not_b)
    ]

own_firsts : (lists : List (List Tx)) (b : Tx) → without_earlier lists b b ≡ listed lists b
own_firsts [] b = refl
own_firsts (xs ∷ lists) b =
    count-cons (holds_without_earlier b b) xs lists
    ∙ ap (λ (n : ℕ). point (holds_without_earlier b b xs) + n) (own_firsts lists b)
    ∙ ap (λ (c : Bool). point c + listed lists b) (own_first b xs)
    ∙ sym (count-cons (holds b) xs lists)

-- a list that ranks a above b holds a
ranked_is_held : (a b : Tx) (xs : List Tx) → point (ranks_above a b xs) ≤ point (holds a xs)
ranked_is_held a b [] = omega arith
ranked_is_held a b (x ∷ xs) =
    elim (cases_Bool (tx_eq x b)) [
      | inl is_b ↦ rw is_b (omega arith)
      | inr not_b ↦ elim (cases_Bool (tx_eq x a)) [
        | inl is_a ↦ rw (not_b, is_a) (omega arith)
        | inr not_a ↦ rw (not_b, not_a) (ranked_is_held a b xs)
      ]
    ]

pub weight_is_listed : (lists : List (List Tx)) (a b : Tx) → weight lists a b ≤ listed lists a
weight_is_listed [] a b = omega arith
weight_is_listed (xs ∷ lists) a b =
    let rest : weight lists a b ≤ listed lists a = weight_is_listed lists a b in
    let one : point (ranks_above a b xs) ≤ point (holds a xs) = ranked_is_held a b xs in
    omega (arith, count-cons (ranks_above a b) xs lists, count-cons (holds a) xs lists)

-- a weight below the threshold gives no edge
edge_needs : (t f w : ℕ) (r : Bool) → outweighs t f w r ≡ true → t ≤ f
edge_needs t f w true is = grind (arith, nat_tests)
edge_needs t f w false is = grind (arith, nat_tests)

given_is : (c d : Bool) → cond c To (cond d From Missing) ≡ To → c ≡ true
given_is true d is = refl
given_is false true is = (cc)
given_is false false is = (cc)

pub light_gives_none : (s : Parameters) (lists : List (List Tx)) (u v : Tx) → weight lists u v < threshold_of s → GiveEdge s lists u v → ⊥
light_gives_none s lists u v light edge =
    let gives : gives_edge s lists u v ≡ true = given_is (gives_edge s lists u v) (gives_edge s lists v u) edge in
    let heavy : threshold_of s ≤ weight lists u v = edge_needs (threshold_of s) (weight lists u v) (weight lists v u) (is_lt (tx_cmp u v)) gives in
    absurd (omega arith)

-- where an edge is given, and not the reverse one, it is this one
pub turned : (s : Parameters) (lists : List (List Tx)) (u v : Tx) → edge_between s lists u v ≢ Missing → (GiveEdge s lists v u → ⊥) → GiveEdge s lists u v
turned s lists u v given none = go (edge_between s lists u v) refl
  where
    go : (e : Edge) → edge_between s lists u v ≡ e → GiveEdge s lists u v
    go To is = is
    go From is = absurd (none (edge_opposite s lists v u ∙ ap opposite_of is))
    go Missing is = absurd (given is)

module _ (s : Parameters) (lists : List (List Tx)) (a b : Tx) (half : 2 * threshold_of s ≤ solid_of s + 1) (owed : IsOwed s lists a b) where
  pub differ : a ≢ b
  differ same =
      let own : without_earlier lists b a ≡ listed lists b = subst (λ (x : Tx). without_earlier lists b x ≡ listed lists b) (sym same) (own_firsts lists b) in
      let candidate : threshold_of s ≤ listed lists b = owed.kept.candidate in
      let few : without_earlier lists b a < threshold_of s = owed.few in
      absurd (omega arith)

  light : weight lists b a < threshold_of s
  light = let few : without_earlier lists b a < threshold_of s = owed.few in omega (arith, weight_is lists a b differ)

  pub no_edge_back : GiveEdge s lists b a → ⊥
  no_edge_back = light_gives_none s lists b a light

  -- a solid b makes a kept
  carried : IsSolid s lists b → IsKept s lists a
  carried solid =
      let whole : listed lists b ≤ weight lists b a + weight lists a b = listed_is_weighed lists b a (λ same. differ (sym same)) in
      let above : weight lists a b ≤ listed lists a = weight_is_listed lists a b in
      let back = light in
      let low : solid_of s ≤ listed lists b = solid in
      let candidate : threshold_of s ≤ listed lists a = omega arith in
      let given : edge_between s lists b a ≢ Missing = solid_edge s lists b a half solid (λ same. differ (sym same)) in
      let forward : GiveEdge s lists a b = turned s lists a b (λ none. given (edge_opposite s lists b a ∙ ap opposite_of none)) no_edge_back in
      record {
        candidate = candidate;
        leads = (b, solid, walk_edge (LeadsOn s lists) a b (record { «from» = candidate; to = owed.kept.candidate; edge = forward }));
      }

  pub is_kept : IsKept s lists a
  is_kept = elim owed.solid [
    | inl solid ↦ carried solid
    | inr kept ↦ kept
  ]

  pub no_later_batch : (kept : List Tx) (u v : ℕ) → IsComplete (graph_of s lists kept) → slice_get kept u ≡ Some a → slice_get kept v ≡ Some b
      → Walks (HasEdge (graph_of s lists kept)) u v
  no_later_batch kept u v complete from to =
      let edge : edge_at (graph_of s lists kept) u v ≡ edge_between s lists a b = edge_of_places s lists kept u v a b from to in
      walk_edge (HasEdge (graph_of s lists kept)) u v
      (edge ∙ turned s lists a b (λ none. complete u v (inside u a from) (inside v b to) (apart u v from to) (edge ∙ none)) no_edge_back)
    where
      inside : (k : ℕ) (t : Tx) → slice_get kept k ≡ Some t → k < length kept
      inside k t found =
          elim (slice_get_cases kept k).1 [
            | inl here ↦ here.1
            | inr past ↦ absurd (cc)
          ]

      apart : (k j : ℕ) → slice_get kept k ≡ Some a → slice_get kept j ≡ Some b → k ≢ j
      apart k j one other same =
          let both : slice_get kept j ≡ Some a = subst (λ (x : ℕ). slice_get kept x ≡ Some a) same one in
          differ (cc)
