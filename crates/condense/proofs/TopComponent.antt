-- The top group is a component.
use Rattle.std.proofs.Common.{◌≡◌, ◌≢◌, ℕ, ◌+◌, List, Some, refl, sym, ap, subst, ◌∙◌, inl, inr, arith, cond}
use Rattle.std.specs.Prelude.{◌⊎◌}
use Rattle.std.proofs.lemmas.Bool.{cases_lt}
use Rattle.std.proofs.lemmas.Bool.Decides.{eqb_tells}
use Rattle.majority_graph.specs.Graph.{Graph}
use Rattle.condense.specs.declared.place.Place.{Place}
use Rattle.condense.specs.declared.place.Place.TheVariants.{Unseen, Open, Followed, Closed}
use Rattle.condense.specs.Places.{place_at, level_of, IsSettled, closed}
use Rattle.condense.proofs.PassInvariant.{IsPath, IsClosedBy, ArePassed, IsAbove, level_cases, same_level, settled_cases}

closing : (level c : ℕ) (p : Place) → ((level_of p ≡ Some level) × (closed level c p ≡ Closed c)) ⊎ ((level_of p ≢ Some level) × (closed level c p ≡ p))
closing level c Unseen = inr (λ is. (cc), refl)
closing level c (Open j) = elim (eqb_tells j level) [
  | inl is ↦ inl (ap Some is.1, ap (λ b. cond b (Closed c) (Open j)) is.0)
  | inr is ↦ inr (λ same. is.1 (same_level same), ap (λ b. cond b (Closed c) (Open j)) is.0)
]
closing level c (Followed j) = elim (eqb_tells j level) [
  | inl is ↦ inl (ap Some is.1, ap (λ b. cond b (Closed c) (Followed j)) is.0)
  | inr is ↦ inr (λ same. is.1 (same_level same), ap (λ b. cond b (Closed c) (Followed j)) is.0)
]
closing level c (Closed b) = inr (λ is. (cc), refl)

module _ (g : Graph) (places new : List Place) (depth count top : ℕ) (path : IsPath g places depth count) (on_top : depth ≡ top + 1)
    (none : (v : ℕ) → place_at places v ≢ Open top) (moved : (x : ℕ) → place_at new x ≡ closed top count (place_at places x)) where
  ends : (x : ℕ) → ((level_of (place_at places x) ≡ Some top) × (place_at new x ≡ Closed count))
      ⊎ ((level_of (place_at places x) ≢ Some top) × (place_at new x ≡ place_at places x))
  ends x = elim (closing top count (place_at places x)) [
    | inl e ↦ inl (e.0, moved x ∙ e.1)
    | inr e ↦ inr (e.0, moved x ∙ e.1)
  ]

  level_still : (x k : ℕ) → level_of (place_at new x) ≡ Some k → (level_of (place_at places x) ≡ Some k) × (k ≢ top)
  level_still x k is = elim (ends x) [
    | inl e ↦ absurd (cc (ap level_of e.1, is))
    | inr e ↦
        let was : level_of (place_at places x) ≡ Some k = sym (ap level_of e.1) ∙ is in
        (was, λ same. e.0 (was ∙ ap Some same))
  ]

  closed_still : (x c : ℕ) → place_at places x ≡ Closed c → place_at new x ≡ Closed c
  closed_still x c was = elim (ends x) [
    | inl e ↦ absurd (cc (e.0, ap level_of was))
    | inr e ↦ e.1 ∙ was
  ]

  -- a vertex that is closed now was on top, or was closed before
  closed_cases : (x c : ℕ) → place_at new x ≡ Closed c → ((level_of (place_at places x) ≡ Some top) × (c ≡ count)) ⊎ (place_at places x ≡ Closed c)
  closed_cases x c is = elim (ends x) [
    | inl e ↦ inl (e.0, (cc (e.1, is)))
    | inr e ↦ inr (sym e.1 ∙ is)
  ]

  -- a vertex that is settled at the top is closed now
  settled_now : (x : ℕ) → IsSettled top (place_at places x) → IsClosedBy count (place_at new x)
  settled_now x settled = elim (settled_cases top (place_at places x) settled) [
    | inl is ↦ elim (ends x) [
      | inl e ↦ (count, omega arith, e.1)
      | inr e ↦ absurd (e.0 is)
    ]
    | inr is ↦ (is.0, omega (arith, path.numbers x is.0 is.1), closed_still x is.0 is.1)
  ]

  top_followed : (x : ℕ) → level_of (place_at places x) ≡ Some top → place_at places x ≡ Followed top
  top_followed x is = elim (level_cases top (place_at places x) is) [
    | inl is_open ↦ absurd (none x is_open)
    | inr is_followed ↦ is_followed
  ]

  pub closed_now : IsPath g new top (count + 1)
  closed_now = record {
    levels = λ x k is. let was = level_still x k is in omega (arith, was.1, path.levels x k was.0);
    filled = λ k below.
        let w = path.filled k (omega arith) in
        elim (ends w.0) [
          | inl e ↦ let same : k ≡ top = same_level (sym w.1 ∙ e.0) in absurd (omega arith)
          | inr e ↦ (w.0, ap level_of e.1 ∙ w.1)
        ];
    walked = λ a b i j le ia jb. path.walked a b i j le (level_still a i ia).0 (level_still b j jb).0;
    followed = λ u x k edge is. elim (ends x) [
      | inl e ↦ absurd (cc (e.1, is))
      | inr e ↦
          let was : place_at places x ≡ Followed k = sym e.1 ∙ is in
          let settled : IsSettled k (place_at places u) = path.followed u x k edge was in
          elim (ends u) [
            | inl eu ↦ elim (settled_cases k (place_at places u) settled) [
              | inl at_k ↦ absurd (e.0 (ap level_of was ∙ sym at_k ∙ eu.0))
              | inr at_end ↦ absurd (cc (ap level_of at_end.1, eu.0))
            ]
            | inr eu ↦ subst (IsSettled k) (sym eu.1) settled
          ]
    ];
    ended = λ u x c edge is. elim (closed_cases x c is) [
      | inl e ↦ subst (λ (b : ℕ). IsClosedBy b (place_at new u)) (sym e.1) (settled_now u (path.followed u x top edge (top_followed x e.0)))
      | inr was ↦ let by = path.ended u x c edge was in (by.0, by.1, closed_still u by.0 by.2)
    ];
    grouped = λ u x c iu ix. elim (closed_cases u c iu) [
      | inl eu ↦ elim (closed_cases x c ix) [
        | inl ex ↦ path.walked x u top top (omega arith) ex.0 eu.0
        | inr wx ↦ absurd (omega (arith, eu.1, path.numbers x c wx))
      ]
      | inr wu ↦ elim (closed_cases x c ix) [
        | inl ex ↦ absurd (omega (arith, ex.1, path.numbers u c wu))
        | inr wx ↦ path.grouped u x c wu wx
      ]
    ];
    numbers = λ x c is. elim (closed_cases x c is) [
      | inl e ↦ omega (arith, e.1)
      | inr was ↦ omega (arith, path.numbers x c was)
    ];
    used = λ c below. elim (cases_lt c count) [
      | inl old ↦ let w = path.used c old in (w.0, closed_still w.0 c w.1)
      | inr now ↦
          let w = path.filled top (omega arith) in
          let same : count ≡ c = omega arith in
          elim (ends w.0) [
            | inl e ↦ (w.0, e.1 ∙ ap Closed same)
            | inr e ↦ absurd (e.0 w.1)
          ]
    ];
  }

  pub closed_passed : (resume : List ℕ) → ArePassed g places resume → ArePassed g new resume
  closed_passed resume passed = record {
    same_length = passed.same_length;
    fresh = λ x is. elim (ends x) [
      | inl e ↦ absurd (cc (e.1, is))
      | inr e ↦ passed.fresh x (sym e.1 ∙ is)
    ];
    passed = λ x k u is below edge. elim (ends x) [
      | inl e ↦ absurd (cc (e.1, is))
      | inr e ↦
          let above : IsAbove k (place_at places u) = passed.passed x k u (sym e.1 ∙ is) below edge in
          elim (ends u) [
            | inl eu ↦ subst (IsAbove k) (sym eu.1) tt
            | inr eu ↦ subst (IsAbove k) (sym eu.1) above
          ]
    ];
  }
