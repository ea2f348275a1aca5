-- All edges into a vertex of the top group are settled.
use Rattle.std.proofs.Common.{◌≡◌, ℕ, ◌+◌, ◌<◌, List, length, set, sym, ap, subst, ◌∙◌, inl, inr}
use Rattle.std.specs.Prelude.{◌⊎◌}
use Rattle.std.proofs.lemmas.Bool.{cases_eq}
use Rattle.std.proofs.lemmas.List.{get_or-set_same, get_or-set_other}
use Rattle.majority_graph.specs.Graph.{Graph, HasEdge}
use Rattle.condense.specs.declared.place.Place.{Place}
use Rattle.condense.specs.declared.place.Place.TheVariants.{Unseen, Open, Followed, Closed}
use Rattle.condense.specs.Places.{place_at, level_of, IsSettled}
use Rattle.condense.specs.Steps.{SettledBelow}
use Rattle.condense.proofs.PassInvariant.{IsPath, ArePassed, IsAbove, edge_inside, settled_by_level}

module _ (g : Graph) (places new : List Place) (depth count at top : ℕ) (path : IsPath g places depth count) (rows : length g.edges ≡ length g.vertices)
    (on_top : depth ≡ top + 1) (inside : at < length places) (is_open : place_at places at ≡ Open top)
    (settled : SettledBelow g places top at (length g.vertices)) (written : new ≡ set places at (Followed top)) where
  split_at : (x : ℕ) → ((x ≡ at) × (place_at places x ≡ Open top) × (place_at new x ≡ Followed top)) ⊎ (place_at new x ≡ place_at places x)
  split_at x = elim (cases_eq x at) [
    | inl same ↦ inl (
      same,
      ap (place_at places) same ∙ is_open,
      ap (place_at new) same ∙ ap (λ (ps : List Place). place_at ps at) written ∙ get_or-set_same places at (Followed top) Unseen inside,
    )
    | inr other ↦ inr (ap (λ (ps : List Place). place_at ps x) written ∙ get_or-set_other places at x (Followed top) Unseen other)
  ]

  level : (x : ℕ) → level_of (place_at new x) ≡ level_of (place_at places x)
  level x = elim (split_at x) [
    | inl e ↦ ap level_of e.2 ∙ sym (ap level_of e.1)
    | inr e ↦ ap level_of e
  ]

  was_closed : (x c : ℕ) → place_at new x ≡ Closed c → place_at places x ≡ Closed c
  was_closed x c is = elim (split_at x) [
    | inl e ↦ absurd (cc (e.2, is))
    | inr e ↦ sym e ∙ is
  ]

  is_closed : (x c : ℕ) → place_at places x ≡ Closed c → place_at new x ≡ Closed c
  is_closed x c was = elim (split_at x) [
    | inl e ↦ absurd (cc (e.1, was))
    | inr e ↦ e ∙ was
  ]

  still_settled : (k u : ℕ) → IsSettled k (place_at places u) → IsSettled k (place_at new u)
  still_settled k u = settled_by_level k (place_at places u) (place_at new u) (level u) (is_closed u)

  pub followed_now : IsPath g new depth count
  followed_now = record {
    levels = λ x k is. path.levels x k (sym (level x) ∙ is);
    filled = λ k below. let w = path.filled k below in (w.0, level w.0 ∙ w.1);
    walked = λ a b i j le ia jb. path.walked a b i j le (sym (level a) ∙ ia) (sym (level b) ∙ jb);
    followed = λ u x k edge is. elim (split_at x) [
      | inl e ↦
          let same : top ≡ k = (cc (e.2, is)) in
          let leads : HasEdge g u at = subst (λ (y : ℕ). HasEdge g u y) e.0 edge in
          subst (λ (j : ℕ). IsSettled j (place_at new u)) same (still_settled top u (settled u (edge_inside g u at rows leads) leads))
      | inr e ↦ still_settled k u (path.followed u x k edge (sym e ∙ is))
    ];
    ended = λ u x c edge is. let by = path.ended u x c edge (was_closed x c is) in (by.0, by.1, is_closed u by.0 by.2);
    grouped = λ u x c iu ix. path.grouped u x c (was_closed u c iu) (was_closed x c ix);
    numbers = λ x c is. path.numbers x c (was_closed x c is);
    used = λ c below. let w = path.used c below in (w.0, is_closed w.0 c w.1);
  }

  pub followed_passed : (resume : List ℕ) → ArePassed g places resume → ArePassed g new resume
  followed_passed resume passed = record {
    same_length = passed.same_length;
    fresh = λ x is. elim (split_at x) [
      | inl e ↦ absurd (cc (e.2, is))
      | inr e ↦ passed.fresh x (sym e ∙ is)
    ];
    passed = λ x k u is below edge. elim (split_at x) [
      | inl e ↦ absurd (cc (e.2, is))
      | inr e ↦
          let above : IsAbove k (place_at places u) = passed.passed x k u (sym e ∙ is) below edge in
          elim (split_at u) [
            | inl eu ↦
                let here : IsAbove k (Open top) = subst (IsAbove k) eu.1 above in
                let same : IsAbove k (Followed top) = here in
                subst (IsAbove k) (sym eu.2) same
            | inr eu ↦ subst (IsAbove k) (sym eu) above
          ]
    ];
  }
