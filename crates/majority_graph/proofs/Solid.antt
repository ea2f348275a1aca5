-- A solid transaction has an edge with every other one.
use Rattle.std.proofs.Common.{◌≡◌, ◌≢◌, ℕ, ◌+◌, ◌*◌, ◌<◌, ◌≤◌, List, [], ◌∷◌, Bool, true, false, cond, refl, sym, ap, ◌∙◌, inl, inr, arith}
use Rattle.std.specs.Prelude.{◌⊎◌}
use Rattle.std.specs.Ordering.{is_lt, is_eq, ordering_reverse}
use Rattle.std.specs.declared.cmp.Ordering.{Ordering}
use Rattle.std.specs.declared.cmp.Ordering.TheVariants.{Less, Equal, Greater}
use Rattle.std.proofs.lemmas.Bool.{cases_Bool, cases_order, false_from_ne_true}
use Rattle.std.proofs.lemmas.Bool.Decides.{nat_tests}
use Rattle.std.proofs.lemmas.List.Sums.{sum_by-cons}
use Rattle.seq_base.specs.declared.tx.Tx.{Tx}
use Rattle.seq_base.specs.Lists.{holds, listed}
use Rattle.seq_base.specs.Tx.{tx_cmp, tx_eq, tx_cmp_total, tx_eq_ties, tx_eq_decides}
use Rattle.seq_base.specs.Setting.{Parameters, threshold_of, solid_of}
use Rattle.seq_base.proofs.Points.{point}
use Rattle.majority_graph.specs.declared.edge.Edge.TheVariants.{To, From, Missing}
use Rattle.majority_graph.specs.Edges.{outweighs, gives_edge, edge_between}
use Rattle.majority_graph.specs.Weights.{ranks_above, weight}

-- in a list that holds u, one of u and v ranks above the other
ranked_if_held : (u v : Tx) (xs : List Tx) → u ≢ v → holds u xs ≡ true → point (ranks_above u v xs) + point (ranks_above v u xs) ≡ 1
ranked_if_held u v [] apart held = absurd (cc)
ranked_if_held u v (x ∷ xs) apart held =
    elim (cases_Bool (tx_eq x v)) [
      | inl is_v ↦
          let not_u : tx_eq x u ≡ false = false_from_ne_true (tx_eq x u) (λ is_u. apart (sym ((tx_eq_decides x u).0 is_u) ∙ (tx_eq_decides x v).0 is_v)) in
          rw (is_v, not_u) refl
      | inr not_v ↦ elim (cases_Bool (tx_eq x u)) [
        | inl is_u ↦ rw (not_v, is_u) refl
        | inr not_u ↦
            let following : holds u xs ≡ true = rw not_u at held in
            rw (not_v, not_u) (ranked_if_held u v xs apart following)
      ]
    ]

pub listed_is_weighed : (lists : List (List Tx)) (u v : Tx) → u ≢ v → listed lists u ≤ weight lists u v + weight lists v u
listed_is_weighed [] u v apart = omega arith
listed_is_weighed (xs ∷ lists) u v apart =
    let rest : listed lists u ≤ weight lists u v + weight lists v u = listed_is_weighed lists u v apart in
    let held : listed (xs ∷ lists) u ≡ point (holds u xs) + listed lists u = sum_by-cons (λ (x : List Tx). cond (holds u x) 1 0) xs lists in
    let forward : weight (xs ∷ lists) u v ≡ point (ranks_above u v xs) + weight lists u v =
    sum_by-cons (λ (x : List Tx). cond (ranks_above u v x) 1 0) xs lists in
    let backward : weight (xs ∷ lists) v u ≡ point (ranks_above v u xs) + weight lists v u =
    sum_by-cons (λ (x : List Tx). cond (ranks_above v u x) 1 0) xs lists in
    elim (cases_Bool (holds u xs)) [
      | inl is_held ↦
          let one : point (ranks_above u v xs) + point (ranks_above v u xs) ≡ 1 = ranked_if_held u v xs apart is_held in
          let counts : point (holds u xs) ≡ 1 = ap point is_held in
          omega (arith, rest, held, forward, backward, one, counts)
      | inr not_held ↦
          let counts : point (holds u xs) ≡ 0 = ap point not_held in
          omega (arith, rest, held, forward, backward, counts)
    ]

-- one of two different transactions is below the other
one_below : (u v : Tx) → u ≢ v → (is_lt (tx_cmp u v) ≡ true) ⊎ (is_lt (tx_cmp v u) ≡ true)
one_below u v apart = below_or_above (tx_cmp u v) (tx_cmp v u) (tx_cmp_total.antisymm u v)
    (λ tied. apart ((tx_eq_decides u v).0 (tx_eq_ties u v ∙ ap is_eq tied)))
  where
    below_or_above : (o p : Ordering) → o ≡ ordering_reverse p → (o ≡ Equal → ⊥) → (is_lt o ≡ true) ⊎ (is_lt p ≡ true)
    below_or_above o Less e no_tie = inr refl
    below_or_above o Equal e no_tie = absurd (no_tie e)
    below_or_above o Greater e no_tie = inl (ap is_lt e)

reaches_half : (t f w : ℕ) (r : Bool) → 2 * t ≤ f + w + 1 → (w < f) ⊎ ((f ≡ w) × (r ≡ true)) → outweighs t f w r ≡ true
reaches_half t f w r half (inl more) = grind (arith, nat_tests)
reaches_half t f w true half (inr tie) = grind (arith, nat_tests)
reaches_half t f w false half (inr tie) = absurd (cc)

edge_given : (g h : Bool) → (g ≡ true) ⊎ (h ≡ true) → cond g To (cond h From Missing) ≢ Missing
edge_given true h given = λ same. (cc)
edge_given false true given = λ same. (cc)
edge_given false false (inl is) = λ same. (cc)
edge_given false false (inr is) = λ same. (cc)

one_gives : (s : Parameters) (lists : List (List Tx)) (u v : Tx) → 2 * threshold_of s ≤ solid_of s + 1 → solid_of s ≤ listed lists u → u ≢ v
    → (gives_edge s lists u v ≡ true) ⊎ (gives_edge s lists v u ≡ true)
one_gives s lists u v half solid apart =
    let whole = listed_is_weighed lists u v apart in
    let t = threshold_of s in
    let f = weight lists u v in
    let w = weight lists v u in
    let forward : 2 * threshold_of s ≤ weight lists u v + weight lists v u + 1 = omega arith in
    let backward : 2 * threshold_of s ≤ weight lists v u + weight lists u v + 1 = omega arith in
    elim (cases_order (weight lists u v) (weight lists v u)) [
      | inl tie ↦ elim (one_below u v apart) [
        | inl below ↦ inl (reaches_half t f w (is_lt (tx_cmp u v)) forward (inr (tie, below)))
        | inr above ↦ inr (reaches_half t w f (is_lt (tx_cmp v u)) backward (inr (sym tie, above)))
      ]
      | inr (inl less) ↦ inr (reaches_half t w f (is_lt (tx_cmp v u)) backward (inl less))
      | inr (inr more) ↦ inl (reaches_half t f w (is_lt (tx_cmp u v)) forward (inl more))
    ]

pub solid_edge : (s : Parameters) (lists : List (List Tx)) (u v : Tx) → 2 * threshold_of s ≤ solid_of s + 1 → solid_of s ≤ listed lists u → u ≢ v
    → edge_between s lists u v ≢ Missing
solid_edge s lists u v half solid apart = edge_given (gives_edge s lists u v) (gives_edge s lists v u) (one_gives s lists u v half solid apart)
