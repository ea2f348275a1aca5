-- Each step preserves the path and reduces the remaining work. At the end the components are found.
use Rattle.std.proofs.Common.{◌≡◌, ◌≢◌, ℕ, ◌+◌, ◌*◌, ◌<◌, ◌≤◌, List, [], ◌∷◌, length, get_or, set, map, Some, refl, sym, ap, subst, ◌∙◌, inl, inr, arith, suc}
use Rattle.std.specs.List.{sum_by}
use Rattle.std.proofs.lemmas.Bool.{cases_eq}
use Rattle.std.proofs.lemmas.Bool.Decides.{eqb_tells}
use Rattle.std.proofs.lemmas.List.{length-set, length-map, get_or-map}
use Rattle.std.proofs.lemmas.List.Sums.{sum_by-set, sum_by-cons}
use Rattle.majority_graph.specs.Graph.{Graph, HasEdge}
use Rattle.majority_graph.specs.Walks.{Leads, Walks}
use Rattle.condense.specs.declared.place.Place.{Place}
use Rattle.condense.specs.declared.place.Place.TheVariants.{Unseen, Open, Followed, Closed}
use Rattle.condense.specs.declared.step.Step.{Step}
use Rattle.condense.specs.declared.step.Step.TheVariants.{Enter, Follow, Join, Close}
use Rattle.condense.specs.declared.pass.Pass.{Pass}
use Rattle.condense.specs.Groups.{Groups, AreComponents}
use Rattle.condense.specs.Moves.{Moves}
use Rattle.condense.specs.Places.{place_at, level_of, joined, closed, number_of}
use Rattle.condense.specs.Steps.{IsStep, TopIsPassed}
use Rattle.condense.proofs.PassInvariant.{IsPath, IsClosedBy, ArePassed, above_if_settled, settled_at_top, seen_inside}
use Rattle.condense.proofs.NewGroup.{entered, entered_passed}
use Rattle.condense.proofs.SettledEdges.{followed_now, followed_passed}
use Rattle.condense.proofs.JoinedGroups.{joined_now, joined_passed}
use Rattle.condense.proofs.TopComponent.{closed_now, closed_passed}

-- the remaining work at a vertex
abbrev pub work : Place → ℕ
work Unseen = 3
work (Open level) = 1
work (Followed level) = 0
work (Closed number) = 0

-- at all vertices, plus the groups of the path
abbrev pub left : List Place → ℕ → ℕ
left places depth = sum_by work places + depth

pub record IsPass (g : Graph) (pass : Pass) : Type 0 where
  pub same_length : length pass.places.items ≡ length g.vertices
  pub path : IsPath g pass.places.items pass.depth pass.count
  pub few : pass.count + left pass.places.items pass.depth ≤ 3 * length g.vertices

joined_work : (level : ℕ) (p : Place) → work (joined level p) ≤ work p
joined_work level Unseen = omega arith
joined_work level (Open j) = omega arith
joined_work level (Followed j) = omega arith
joined_work level (Closed c) = omega arith

closed_work : (level c : ℕ) (p : Place) → work (closed level c p) ≤ work p
closed_work level c Unseen = omega arith
closed_work level c (Open j) = elim (eqb_tells j level) [
  | inl is ↦ rw is.0 (omega arith)
  | inr is ↦ rw is.0 (omega arith)
]
closed_work level c (Followed j) = elim (eqb_tells j level) [
  | inl is ↦ rw is.0 (omega arith)
  | inr is ↦ rw is.0 (omega arith)
]
closed_work level c (Closed b) = omega arith

less_work : (ps qs : List Place) → length qs ≡ length ps → ((v : ℕ) → work (place_at qs v) ≤ work (place_at ps v)) → sum_by work qs ≤ sum_by work ps
less_work [] [] long less = omega arith
less_work [] (q ∷ qs) long less = absurd (omega arith)
less_work (p ∷ ps) [] long less = absurd (omega arith)
less_work (p ∷ ps) (q ∷ qs) long less =
    let rest : sum_by work qs ≤ sum_by work ps = less_work ps qs (omega arith) (λ v. less (suc v)) in
    let one : work q ≤ work p = less 0 in
    omega (arith, sum_by-cons work p ps, sum_by-cons work q qs)

set_work : (ps new : List Place) (v : ℕ) (p q : Place) → v < length ps → place_at ps v ≡ p → new ≡ set ps v q
    → sum_by work new + work p ≡ sum_by work ps + work q
set_work ps new v p q inside was is = ap (λ (qs : List Place). sum_by work qs + work p) is
    ∙ ap (λ (r : Place). sum_by work (set ps v q) + work r) (sym was) ∙ sum_by-set work ps v q Unseen inside

-- a pass continues
pub record GoesOn (g : Graph) (old new : Pass) : Type 0 where
  pub kept : IsPass g new
  pub nearer : left new.places.items new.depth < left old.places.items old.depth

goes_on : (g : Graph) (old new : Pass) → IsPass g old → length new.places.items ≡ length old.places.items → IsPath g new.places.items new.depth new.count
    → left new.places.items new.depth < left old.places.items old.depth
    → new.count + left new.places.items new.depth ≤ old.count + left old.places.items old.depth → GoesOn g old new
goes_on g old new pass long path nearer few = record {
  kept = record { same_length = long ∙ pass.same_length; path = path; few = omega (arith, pass.few) };
  nearer = nearer;
}

pub advance : (g : Graph) (old new : Pass) (step : Step) → length g.edges ≡ length g.vertices → IsPass g old
    → IsStep g old.places.items old.depth step → Moves old step new → GoesOn g old new
advance g old new (Enter v) rows pass is moves =
    let inside : v < length old.places.items = omega (arith, is.0, pass.same_length) in
    let path : IsPath g new.places.items (old.depth + 1) old.count =
    entered g old.places.items new.places.items old.depth old.count v pass.path inside is.1 is.2 moves.0 in
    let sums : sum_by work new.places.items + 3 ≡ sum_by work old.places.items + 1 =
    set_work old.places.items new.places.items v Unseen (Open old.depth) inside is.1 moves.0 in
    goes_on g old new pass (ap length moves.0 ∙ length-set old.places.items v (Open old.depth))
    (subst (λ (d : ℕ). IsPath g new.places.items d new.count) (sym moves.1) (subst (λ (c : ℕ). IsPath g new.places.items (old.depth + 1) c) (sym moves.2) path))
    (omega (arith, moves.1, sums)) (omega (arith, moves.1, moves.2, sums))
advance g old new (Follow v) rows pass is moves =
    let inside : v < length old.places.items = omega (arith, is.2, pass.same_length) in
    let top : moves.0 ≡ is.0 = omega (arith, moves.1, is.1) in
    let written : new.places.items ≡ set old.places.items v (Followed is.0) = moves.2 ∙ ap (λ (k : ℕ). set old.places.items v (Followed k)) top in
    let path : IsPath g new.places.items old.depth old.count =
    followed_now g old.places.items new.places.items old.depth old.count v is.0 pass.path rows is.1 inside is.3 is.4 written in
    let sums : sum_by work new.places.items + 1 ≡ sum_by work old.places.items + 0 =
    set_work old.places.items new.places.items v (Open is.0) (Followed is.0) inside is.3 written in
    goes_on g old new pass (ap length moves.2 ∙ length-set old.places.items v (Followed moves.0))
    (subst (λ (d : ℕ). IsPath g new.places.items d new.count) (sym moves.3) (subst (λ (c : ℕ). IsPath g new.places.items old.depth c) (sym moves.4) path))
    (omega (arith, moves.3, sums)) (omega (arith, moves.3, moves.4, sums))
advance g old new (Join level) rows pass is moves =
    let path : IsPath g new.places.items (level + 1) old.count =
    joined_now g old.places.items new.places.items old.depth old.count level is.0 pass.path is.2 is.3 moves.1 in
    let low : level < old.depth = pass.path.levels is.0 level is.2 in
    let other : level + 1 ≢ old.depth = is.1 in
    let sums : sum_by work new.places.items ≤ sum_by work old.places.items = less_work old.places.items new.places.items moves.0
    (λ v. subst (λ (p : Place). work p ≤ work (place_at old.places.items v)) (sym (moves.1 v)) (joined_work level (place_at old.places.items v))) in
    goes_on g old new pass moves.0
    (subst (λ (d : ℕ). IsPath g new.places.items d new.count) (sym moves.2) (subst (λ (c : ℕ). IsPath g new.places.items (level + 1) c) (sym moves.3) path))
    (omega (arith, moves.2, sums, low, other)) (omega (arith, moves.2, moves.3, sums, low))
advance g old new Close rows pass is moves =
    let top : is.0 ≡ new.depth = omega (arith, moves.2, is.1) in
    let moved : (v : ℕ) → place_at new.places.items v ≡ closed is.0 old.count (place_at old.places.items v) =
    λ v. moves.1 v ∙ ap (λ (k : ℕ). closed k old.count (place_at old.places.items v)) (sym top) in
    let path : IsPath g new.places.items is.0 (old.count + 1) =
    closed_now g old.places.items new.places.items old.depth old.count is.0 pass.path is.1 is.2 moved in
    let sums : sum_by work new.places.items ≤ sum_by work old.places.items = less_work old.places.items new.places.items moves.0
    (λ v. subst (λ (p : Place). work p ≤ work (place_at old.places.items v)) (sym (moved v)) (closed_work is.0 old.count (place_at old.places.items v))) in
    goes_on g old new pass moves.0
    (subst (λ (d : ℕ). IsPath g new.places.items d new.count) top (subst (λ (c : ℕ). IsPath g new.places.items is.0 c) (sym moves.3) path))
    (omega (arith, moves.2, sums)) (omega (arith, moves.2, moves.3, sums))

-- edges that were passed stay so over a step
pub still_passed : (g : Graph) (old new : Pass) (step : Step) (resume : List ℕ) → length g.edges ≡ length g.vertices → IsPass g old
    → IsStep g old.places.items old.depth step → Moves old step new
    → ArePassed g old.places.items resume → ArePassed g new.places.items resume
still_passed g old new (Enter v) resume rows pass is moves =
    entered_passed g old.places.items new.places.items old.depth old.count v pass.path (omega (arith, is.0, pass.same_length)) is.1 is.2 moves.0 resume
still_passed g old new (Follow v) resume rows pass is moves =
    let top : moves.0 ≡ is.0 = omega (arith, moves.1, is.1) in
    let written : new.places.items ≡ set old.places.items v (Followed is.0) = moves.2 ∙ ap (λ (k : ℕ). set old.places.items v (Followed k)) top in
    followed_passed g old.places.items new.places.items old.depth old.count v is.0 pass.path rows is.1
    (omega (arith, is.2, pass.same_length)) is.3 is.4 written resume
still_passed g old new (Join level) resume rows pass is moves =
    joined_passed g old.places.items new.places.items old.depth old.count level is.0 pass.path is.2 is.3 moves.1 resume
still_passed g old new Close resume rows pass is moves =
    let top : is.0 ≡ new.depth = omega (arith, moves.2, is.1) in
    let moved : (v : ℕ) → place_at new.places.items v ≡ closed is.0 old.count (place_at old.places.items v) =
    λ v. moves.1 v ∙ ap (λ (k : ℕ). closed k old.count (place_at old.places.items v)) (sym top) in
    closed_passed g old.places.items new.places.items old.depth old.count is.0 pass.path is.1 is.2 moved resume

-- at the top, what is passed is settled
pub passed_at_top : (g : Graph) (pass : Pass) (resume : List ℕ) (top : ℕ) → IsPass g pass → ArePassed g pass.places.items resume
    → pass.depth ≡ top + 1 → TopIsPassed g pass.places.items resume top
passed_at_top g pass resume top is passed on_top = λ v is_open u below edge.
    settled_at_top top (place_at pass.places.items u) (λ k at_k. omega (arith, is.path.levels u k at_k)) (passed.passed v top u is_open below edge)

-- after the search has advanced at the top, what was passed still is
pub passed_on : (g : Graph) (pass : Pass) (old new : List ℕ) → IsPass g pass → ArePassed g pass.places.items old → length new ≡ length old
    → ((top : ℕ) → pass.depth ≡ top + 1 → TopIsPassed g pass.places.items new top)
    → ((v : ℕ) → ((top : ℕ) → pass.depth ≡ top + 1 → place_at pass.places.items v ≢ Open top) → get_or new v 0 ≡ get_or old v 0)
    → ArePassed g pass.places.items new
passed_on g pass old new is passed long top_passed others = record {
  same_length = long ∙ passed.same_length;
  fresh = λ v unseen. others v (λ top on_top is_open. (cc)) ∙ passed.fresh v unseen;
  passed = λ v k u is_open below edge. elim (cases_eq (k + 1) pass.depth) [
    | inl on_top ↦ above_if_settled k (place_at pass.places.items u) (top_passed k (sym on_top) v is_open u below edge)
    | inr off ↦
        let same : get_or new v 0 ≡ get_or old v 0 = others v (λ top on_top at_top. let j : k ≡ top = (cc) in off (omega (arith, on_top, j))) in
        passed.passed v k u is_open (omega arith) edge
  ];
}

-- at the end
module _ (g : Graph) (places : List Place) (count : ℕ) (groups : Groups) (long : length places ≡ length g.vertices) (path : IsPath g places 0 count)
    (none : (v : ℕ) → v < length g.vertices → place_at places v ≢ Unseen) (numbers : groups.numbers ≡ map number_of places)
    (same_count : groups.count ≡ count) where
  number : ℕ → ℕ
  number v = get_or groups.numbers v 0

  closed_if_seen : (p : Place) → p ≢ Unseen → ((k : ℕ) → level_of p ≢ Some k) → p ≡ Closed (number_of p)
  closed_if_seen Unseen seen off = absurd (seen refl)
  closed_if_seen (Open k) seen off = absurd (off k refl)
  closed_if_seen (Followed k) seen off = absurd (off k refl)
  closed_if_seen (Closed c) seen off = refl

  is_number : (v : ℕ) → v < length g.vertices → number_of (place_at places v) ≡ get_or groups.numbers v 0
  is_number v inside = sym (ap (λ (ns : List ℕ). get_or ns v 0) numbers ∙ get_or-map number_of places v Unseen 0 (omega arith))

  is_closed : (v : ℕ) → v < length g.vertices → place_at places v ≡ Closed (get_or groups.numbers v 0)
  is_closed v inside =
      closed_if_seen (place_at places v) (none v inside) (λ k is. omega (arith, path.levels v k is)) ∙ ap Closed (is_number v inside)

  -- walks lead to no smaller number
  along : (a b c : ℕ) (steps : List ℕ) → Leads (HasEdge g) a steps b → place_at places b ≡ Closed c → IsClosedBy c (place_at places a)
  along a b c [] leads is = (c, omega arith, ap (place_at places) leads ∙ is)
  along a b c (x ∷ steps) leads is =
      let rest : IsClosedBy c (place_at places x) = along x b c steps leads.1 is in
      let one : IsClosedBy rest.0 (place_at places a) = path.ended a x rest.0 leads.0 rest.2 in
      (one.0, omega (arith, one.1, rest.1), one.2)

  rises : (u v : ℕ) → u < length g.vertices → v < length g.vertices → Walks (HasEdge g) u v → get_or groups.numbers u 0 ≤ get_or groups.numbers v 0
  rises u v iu iv walk =
      let by : IsClosedBy (get_or groups.numbers v 0) (place_at places u) = along u v (get_or groups.numbers v 0) walk.0 walk.1 (is_closed v iv) in
      let same : by.0 ≡ get_or groups.numbers u 0 = (cc (by.2, is_closed u iu)) in
      omega (arith, by.1)

  pub found : AreComponents g groups
  found = record {
    each = ap length numbers ∙ length-map places number_of ∙ long;
    line = record {
      numbering = record {
        rises = λ u v iu iv edge. rises u v iu iv (v ∷ [], (edge, refl));
        same = λ u v iu iv. (
          (λ same.
              let cu : place_at places u ≡ Closed (get_or groups.numbers v 0) = is_closed u iu ∙ ap Closed same in
              (path.grouped u v (get_or groups.numbers v 0) cu (is_closed v iv), path.grouped v u (get_or groups.numbers v 0) (is_closed v iv) cu)),
          (λ walks. omega (arith, rises u v iu iv walks.0, rises v u iv iu walks.1)),
        );
      };
      below = λ v inside. omega (arith, path.numbers v (get_or groups.numbers v 0) (is_closed v inside));
      used = λ c below.
          let w = path.used c (omega arith) in
          let inside : w.0 < length g.vertices = omega (arith, seen_inside places w.0 (λ (unseen : place_at places w.0 ≡ Unseen). (cc (unseen, w.1))), long) in
          (w.0, inside, (cc (w.1, is_closed w.0 inside)));
    };
  }
