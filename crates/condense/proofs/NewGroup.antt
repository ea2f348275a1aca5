-- An unseen vertex becomes a new group on top.
use Rattle.std.proofs.Common.{◌≡◌, ◌≢◌, ℕ, ◌+◌, ◌<◌, List, length, get_or, set, Some, sym, ap, subst, ◌∙◌, inl, inr, arith}
use Rattle.std.specs.Prelude.{◌⊎◌}
use Rattle.std.proofs.lemmas.Bool.{cases_eq, cases_lt}
use Rattle.std.proofs.lemmas.List.{get_or-set_same, get_or-set_other}
use Rattle.majority_graph.specs.Graph.{Graph, HasEdge}
use Rattle.majority_graph.specs.Walks.{Walks}
use Rattle.condense.specs.declared.place.Place.{Place}
use Rattle.condense.specs.declared.place.Place.TheVariants.{Unseen, Open}
use Rattle.condense.specs.Places.{place_at, level_of, IsSettled}
use Rattle.condense.specs.Steps.{LeadsToTop}
use Rattle.condense.proofs.Trails.{walk_of_none, walk_of_one, walks_joined}
use Rattle.condense.proofs.PassInvariant.{IsPath, ArePassed, IsAbove, above_seen, same_level, settled_seen}

module _ (g : Graph) (places new : List Place) (depth count v : ℕ) (path : IsPath g places depth count) (inside : v < length places)
    (unseen : place_at places v ≡ Unseen) (leads : (depth ≡ 0) ⊎ LeadsToTop g places depth v) (written : new ≡ set places v (Open depth)) where
  here : place_at new v ≡ Open depth
  here = ap (λ (ps : List Place). place_at ps v) written ∙ get_or-set_same places v (Open depth) Unseen inside

  split : (x : ℕ) → ((x ≡ v) × (place_at new x ≡ Open depth)) ⊎ (place_at new x ≡ place_at places x)
  split x = elim (cases_eq x v) [
    | inl same ↦ inl (same, ap (place_at new) same ∙ here)
    | inr other ↦ inr (ap (λ (ps : List Place). place_at ps x) written ∙ get_or-set_other places v x (Open depth) Unseen other)
  ]

  still : (x : ℕ) → place_at places x ≢ Unseen → place_at new x ≡ place_at places x
  still x seen = elim (split x) [
    | inl is ↦ absurd (seen (ap (place_at places) is.0 ∙ unseen))
    | inr same ↦ same
  ]

  -- a walk leads from the new vertex to each of the path
  walk_down : (a i : ℕ) → level_of (place_at places a) ≡ Some i → Walks (HasEdge g) v a
  walk_down a i is = elim leads [
    | inl none ↦ absurd (omega (arith, path.levels a i is))
    | inr to ↦ walks_joined (HasEdge g) v to.0 a (walk_of_one (HasEdge g) v to.0 to.4)
        (path.walked a to.0 i to.1 (omega (arith, path.levels a i is, to.2)) is to.3)
  ]

  pub entered : IsPath g new (depth + 1) count
  entered = record {
    levels = λ x k is. elim (split x) [
      | inl e ↦ let same : depth ≡ k = same_level (sym (ap level_of e.1) ∙ is) in omega arith
      | inr e ↦ omega (arith, path.levels x k (sym (ap level_of e) ∙ is))
    ];
    filled = λ k below. elim (cases_lt k depth) [
      | inl old ↦
          let w = path.filled k old in
          (w.0, ap level_of (still w.0 (λ (none : place_at places w.0 ≡ Unseen). (cc (ap level_of none, w.1)))) ∙ w.1)
      | inr top ↦
          let same : depth ≡ k = omega arith in
          (v, ap level_of here ∙ ap Some same)
    ];
    walked = λ a b i j le ia jb. elim (split a) [
      | inl ea ↦ elim (split b) [
        | inl eb ↦ subst (λ (x : ℕ). Walks (HasEdge g) b x) (eb.0 ∙ sym ea.0) (walk_of_none (HasEdge g) b)
        | inr eb ↦
            let at_top : depth ≡ i = same_level (sym (ap level_of ea.1) ∙ ia) in
            absurd (omega (arith, path.levels b j (sym (ap level_of eb) ∙ jb)))
      ]
      | inr ea ↦ elim (split b) [
        | inl eb ↦ subst (λ (x : ℕ). Walks (HasEdge g) x a) (sym eb.0) (walk_down a i (sym (ap level_of ea) ∙ ia))
        | inr eb ↦ path.walked a b i j le (sym (ap level_of ea) ∙ ia) (sym (ap level_of eb) ∙ jb)
      ]
    ];
    followed = λ u x k edge is. elim (split x) [
      | inl e ↦ absurd (cc (e.1, is))
      | inr e ↦
          let settled : IsSettled k (place_at places u) = path.followed u x k edge (sym e ∙ is) in
          subst (IsSettled k) (sym (still u (settled_seen k (place_at places u) settled))) settled
    ];
    ended = λ u x c edge is. elim (split x) [
      | inl e ↦ absurd (cc (e.1, is))
      | inr e ↦
          let by = path.ended u x c edge (sym e ∙ is) in
          (by.0, by.1, still u (λ (none : place_at places u ≡ Unseen). (cc (none, by.2))) ∙ by.2)
    ];
    grouped = λ u x c iu ix. elim (split u) [
      | inl e ↦ absurd (cc (e.1, iu))
      | inr eu ↦ elim (split x) [
        | inl e ↦ absurd (cc (e.1, ix))
        | inr ex ↦ path.grouped u x c (sym eu ∙ iu) (sym ex ∙ ix)
      ]
    ];
    numbers = λ x c is. elim (split x) [
      | inl e ↦ absurd (cc (e.1, is))
      | inr e ↦ path.numbers x c (sym e ∙ is)
    ];
    used = λ c below.
        let w = path.used c below in
        (w.0, still w.0 (λ (none : place_at places w.0 ≡ Unseen). (cc (none, w.1))) ∙ w.1);
  }

  pub entered_passed : (resume : List ℕ) → ArePassed g places resume → ArePassed g new resume
  entered_passed resume passed = record {
    same_length = passed.same_length;
    fresh = λ x is. elim (split x) [
      | inl e ↦ absurd (cc (e.1, is))
      | inr e ↦ passed.fresh x (sym e ∙ is)
    ];
    passed = λ x k u is below edge. elim (split x) [
      | inl e ↦ absurd (omega (arith, below, ap (λ (y : ℕ). get_or resume y 0) e.0, passed.fresh v unseen))
      | inr e ↦
          let above : IsAbove k (place_at places u) = passed.passed x k u (sym e ∙ is) below edge in
          subst (IsAbove k) (sym (still u (above_seen k (place_at places u) above))) above
    ];
  }
