-- The groups from a level on become one.
use Rattle.std.proofs.Common.{◌≡◌, ℕ, min, ◌+◌, ◌<◌, ◌≤◌, List, Some, refl, sym, ap, subst, ◌∙◌, inl, inr, arith}
use Rattle.std.proofs.lemmas.Bool.{cases_lt}
use Rattle.majority_graph.specs.Graph.{Graph, HasEdge}
use Rattle.majority_graph.specs.Walks.{Walks}
use Rattle.condense.specs.declared.place.Place.{Place}
use Rattle.condense.specs.declared.place.Place.TheVariants.{Unseen, Open, Followed, Closed}
use Rattle.condense.specs.Places.{place_at, level_of, IsSettled, joined}
use Rattle.condense.specs.Steps.{LeadsToTop}
use Rattle.condense.proofs.Trails.{walk_of_one, walks_joined}
use Rattle.condense.proofs.PassInvariant.{IsPath, ArePassed, IsAbove, same_level}

joined_level : (level k : ℕ) (p : Place) → level_of p ≡ Some k → level_of (joined level p) ≡ Some (min k level)
joined_level level k Unseen is = absurd (cc)
joined_level level k (Open j) is = ap (λ (i : ℕ). Some (min i level)) (same_level is)
joined_level level k (Followed j) is = ap (λ (i : ℕ). Some (min i level)) (same_level is)
joined_level level k (Closed c) is = absurd (cc)

level_before : (level k : ℕ) (p : Place) → level_of (joined level p) ≡ Some k → (j : ℕ) × (level_of p ≡ Some j) × (min j level ≡ k)
level_before level k Unseen is = absurd (cc)
level_before level k (Open j) is = (j, refl, same_level is)
level_before level k (Followed j) is = (j, refl, same_level is)
level_before level k (Closed c) is = absurd (cc)

followed_before : (level k : ℕ) (p : Place) → joined level p ≡ Followed k → (j : ℕ) × (p ≡ Followed j) × (min j level ≡ k)
followed_before level k Unseen is = absurd (cc)
followed_before level k (Open j) is = absurd (cc)
followed_before level k (Followed j) is = (j, refl, cc)
followed_before level k (Closed c) is = absurd (cc)

closed_before : (level c : ℕ) (p : Place) → joined level p ≡ Closed c → p ≡ Closed c
closed_before level c Unseen is = absurd (cc)
closed_before level c (Open j) is = absurd (cc)
closed_before level c (Followed j) is = absurd (cc)
closed_before level c (Closed b) is = is

open_before : (level k : ℕ) (p : Place) → joined level p ≡ Open k → (j : ℕ) × (p ≡ Open j) × (min j level ≡ k)
open_before level k Unseen is = absurd (cc)
open_before level k (Open j) is = (j, refl, cc)
open_before level k (Followed j) is = absurd (cc)
open_before level k (Closed c) is = absurd (cc)

unseen_before : (level : ℕ) (p : Place) → joined level p ≡ Unseen → p ≡ Unseen
unseen_before level Unseen is = refl
unseen_before level (Open j) is = absurd (cc)
unseen_before level (Followed j) is = absurd (cc)
unseen_before level (Closed c) is = absurd (cc)

joined_above : (level k : ℕ) (p : Place) → IsAbove k p → IsAbove (min k level) (joined level p)
joined_above level k Unseen above = absurd above
joined_above level k (Open j) above = omega arith
joined_above level k (Followed j) above = omega arith
joined_above level k (Closed c) above = tt

joined_settled : (level k : ℕ) (p : Place) → IsSettled k p → IsSettled (min k level) (joined level p)
joined_settled level k Unseen settled = absurd settled
joined_settled level k (Open j) settled = ap (λ (i : ℕ). min i level) settled
joined_settled level k (Followed j) settled = ap (λ (i : ℕ). min i level) settled
joined_settled level k (Closed c) settled = tt

module _ (g : Graph) (places new : List Place) (depth count level u : ℕ) (path : IsPath g places depth count)
    (is_level : level_of (place_at places u) ≡ Some level) (leads : LeadsToTop g places depth u)
    (moved : (x : ℕ) → place_at new x ≡ joined level (place_at places x)) where
  before : (x k : ℕ) → level_of (place_at new x) ≡ Some k → (j : ℕ) × (level_of (place_at places x) ≡ Some j) × (min j level ≡ k)
  before x k is = level_before level k (place_at places x) (sym (ap level_of (moved x)) ∙ is)

  closed_was : (x c : ℕ) → place_at new x ≡ Closed c → place_at places x ≡ Closed c
  closed_was x c is = closed_before level c (place_at places x) (sym (moved x) ∙ is)

  closed_is : (x c : ℕ) → place_at places x ≡ Closed c → place_at new x ≡ Closed c
  closed_is x c was = moved x ∙ ap (joined level) was

  -- from the level on a walk leads down, over the edge into the top, and down again
  around : (a b i j : ℕ) → level ≤ j → level_of (place_at places a) ≡ Some i → level_of (place_at places b) ≡ Some j → Walks (HasEdge g) b a
  around a b i j le ia jb =
      let down : Walks (HasEdge g) b u = path.walked u b level j le is_level jb in
      let over : Walks (HasEdge g) u leads.0 = walk_of_one (HasEdge g) u leads.0 leads.4 in
      let again : Walks (HasEdge g) leads.0 a = path.walked a leads.0 i leads.1 (omega (arith, path.levels a i ia, leads.2)) ia leads.3 in
      walks_joined (HasEdge g) b u a down (walks_joined (HasEdge g) u leads.0 a over again)

  pub joined_now : IsPath g new (level + 1) count
  joined_now = record {
    levels = λ x k is. let w = before x k is in omega (arith, w.2);
    filled = λ k below.
        let low : level < depth = path.levels u level is_level in
        let w = path.filled k (omega arith) in
        let same : min k level ≡ k = omega arith in
        (w.0, ap level_of (moved w.0) ∙ joined_level level k (place_at places w.0) w.1 ∙ ap Some same);
    walked = λ a b i j le ia jb.
        let wa = before a i ia in
        let wb = before b j jb in
        elim (cases_lt wb.0 wa.0) [
          | inl less ↦ around a b wa.0 wb.0 (omega (arith, wa.2, wb.2)) wa.1 wb.1
          | inr below ↦ path.walked a b wa.0 wb.0 below wa.1 wb.1
        ];
    followed = λ w x k edge is.
        let was = followed_before level k (place_at places x) (sym (moved x) ∙ is) in
        let settled : IsSettled (min was.0 level) (joined level (place_at places w)) =
        joined_settled level was.0 (place_at places w) (path.followed w x was.0 edge was.1) in
        subst (λ (j : ℕ). IsSettled j (place_at new w)) was.2 (subst (IsSettled (min was.0 level)) (sym (moved w)) settled);
    ended = λ w x c edge is. let by = path.ended w x c edge (closed_was x c is) in (by.0, by.1, closed_is w by.0 by.2);
    grouped = λ w x c iw ix. path.grouped w x c (closed_was w c iw) (closed_was x c ix);
    numbers = λ x c is. path.numbers x c (closed_was x c is);
    used = λ c below. let w = path.used c below in (w.0, closed_is w.0 c w.1);
  }

  pub joined_passed : (resume : List ℕ) → ArePassed g places resume → ArePassed g new resume
  joined_passed resume passed = record {
    same_length = passed.same_length;
    fresh = λ x is. passed.fresh x (unseen_before level (place_at places x) (sym (moved x) ∙ is));
    passed = λ x k w is below edge.
        let was = open_before level k (place_at places x) (sym (moved x) ∙ is) in
        let above : IsAbove (min was.0 level) (joined level (place_at places w)) =
        joined_above level was.0 (place_at places w) (passed.passed x was.0 w was.1 below edge) in
        subst (λ (j : ℕ). IsAbove j (place_at new w)) was.2 (subst (IsAbove (min was.0 level)) (sym (moved w)) above);
  }
