-- Each step keeps the stack of the path.
use Rattle.std.proofs.Common.{◌≡◌, ◌≢◌, ℕ, ◌+◌, ◌-◌, ◌<◌, ◌≤◌, min, List, [], ◌∷◌, ◌++◌, length, get_or, set, take, Some, refl, sym, ap, ◌∙◌, inl, inr, arith}
use Rattle.std.specs.Prelude.{◌⊎◌}
use Rattle.std.proofs.lemmas.Bool.{cases_eq, cases_lt}
use Rattle.std.proofs.lemmas.Bool.Decides.{eqb_tells}
use Rattle.std.proofs.lemmas.List.{get_or-set_same, get_or-set_other, get_or-take, get_or_append_left, get_or_push, length_push, length-take-le, length-set}
use Rattle.majority_graph.specs.Graph.{Graph}
use Rattle.condense.specs.declared.place.Place.{Place}
use Rattle.condense.specs.declared.place.Place.TheVariants.{Unseen, Open, Followed, Closed}
use Rattle.condense.specs.Places.{place_at, level_of, joined, closed}
use Rattle.condense.specs.declared.step.Step.{Step}
use Rattle.condense.specs.declared.step.Step.TheVariants.{Enter, Follow, Join, Close}
use Rattle.condense.specs.Moves.{Suits}
use Rattle.condense.specs.Stacks.{EntryAt, IsStack}
use Rattle.condense.specs.Steps.{IsStep}
use Rattle.condense.proofs.PassInvariant.{same_level, seen_inside}

-- a vertex of the path exists
on_seen : (p : Place) (l : ℕ) → level_of p ≡ Some l → p ≢ Unseen
on_seen Unseen l is = absurd (cc)
on_seen (Open j) l is = λ same. (cc)
on_seen (Followed j) l is = λ same. (cc)
on_seen (Closed c) l is = λ same. (cc)

pub entry_inside : (places : List Place) (depth : ℕ) (path : List ℕ) → IsStack places depth path → (k : ℕ) → k < length path → get_or path k 0 < length places
entry_inside places depth path stack k below =
    let at = stack.each k below in
    seen_inside places (get_or path k 0) (on_seen (place_at places (get_or path k 0)) at.0 at.2)

-- no vertex changes its level
same_levels : (old new : List Place) (depth : ℕ) (path : List ℕ) → ((v : ℕ) → level_of (place_at new v) ≡ level_of (place_at old v))
    → IsStack old depth path → IsStack new depth path
same_levels old new depth path same stack = record {
  each = λ k below. let at = stack.each k below in (at.0, at.1, same (get_or path k 0) ∙ at.2);
  all = λ v l is. stack.all v l (sym (same v) ∙ is);
  rises = λ j k a b low below at_j at_k. stack.rises j k a b low below (sym (same (get_or path j 0)) ∙ at_j) (sym (same (get_or path k 0)) ∙ at_k);
  once = stack.once;
}

pub followed_stack : (old new : List Place) (depth v top : ℕ) (path : List ℕ) → v < length old → place_at old v ≡ Open top
    → new ≡ set old v (Followed top) → IsStack old depth path → IsStack new depth path
followed_stack old new depth v top path inside was is stack =
    same_levels old new depth path
    (λ u. elim (cases_eq u v) [
      | inl here ↦
          ap (λ (ps : List Place). level_of (place_at ps u)) is ∙ ap (λ (w : ℕ). level_of (place_at (set old v (Followed top)) w)) here
          ∙ ap level_of (get_or-set_same old v (Followed top) Unseen inside) ∙ sym (ap (λ (w : ℕ). level_of (place_at old w)) here ∙ ap level_of was)
      | inr other ↦ ap (λ (ps : List Place). level_of (place_at ps u)) is ∙ ap level_of (get_or-set_other old v u (Followed top) Unseen other)
    ]) stack

at_end : (k count : ℕ) → k < count + 1 → (k < count → ⊥) → k ≡ count
at_end k count below past = elim (cases_lt k count) [
  | inl less ↦ absurd (past less)
  | inr more ↦ omega (arith, below, more)
]

-- a new group on top
pub entered_stack : (old new : List Place) (depth v : ℕ) (path : List ℕ) → v < length old → place_at old v ≡ Unseen
    → new ≡ set old v (Open depth) → IsStack old depth path → IsStack new (depth + 1) (path ++ v ∷ [])
entered_stack old new depth v path inside was is stack =
    let count : ℕ = length path in
    let long : length (path ++ v ∷ []) ≡ count + 1 = length_push path v in
    let last : get_or (path ++ v ∷ []) count 0 ≡ v = get_or_push path v 0 count refl in
    let before : (k : ℕ) → k < count → get_or (path ++ v ∷ []) k 0 ≡ get_or path k 0 = λ k below. get_or_append_left path (v ∷ []) 0 k below in
    let new_at : level_of (place_at new v) ≡ Some depth = ap (λ (ps : List Place). level_of (place_at ps v)) is
    ∙ ap level_of (get_or-set_same old v (Open depth) Unseen inside) in
    let other : (u : ℕ) → u ≢ v → level_of (place_at new u) ≡ level_of (place_at old u) =
    λ u apart. ap (λ (ps : List Place). level_of (place_at ps u)) is ∙ ap level_of (get_or-set_other old v u (Open depth) Unseen apart) in
    let unlike : (k : ℕ) → k < count → get_or path k 0 ≢ v =
    λ k below same. on_seen (place_at old (get_or path k 0)) (stack.each k below).0 (stack.each k below).2 (ap (place_at old) same ∙ was) in
    let entry : (k : ℕ) → k < count → level_of (place_at new (get_or (path ++ v ∷ []) k 0)) ≡ level_of (place_at old (get_or path k 0)) =
    λ k below. ap (λ (u : ℕ). level_of (place_at new u)) (before k below) ∙ other (get_or path k 0) (unlike k below) in
    let top : (k : ℕ) → k < count + 1 → (k < count → ⊥) → level_of (place_at new (get_or (path ++ v ∷ []) k 0)) ≡ Some depth =
    λ k below past. ap (λ (i : ℕ). level_of (place_at new (get_or (path ++ v ∷ []) i 0))) (at_end k count below past)
    ∙ ap (λ (u : ℕ). level_of (place_at new u)) last ∙ new_at in
    record {
      each = λ k below. elim (cases_lt k count) [
        | inl low ↦ let at = stack.each k low in (at.0, omega (arith, at.1), entry k low ∙ at.2)
        | inr past ↦ (depth, omega arith, top k (omega (arith, below, long)) (λ low. absurd (omega arith)))
      ];
      all = λ u l at. elim (cases_eq u v) [
        | inl here ↦ (count, omega (arith, long), last ∙ sym here)
        | inr apart ↦ let k = stack.all u l (sym (other u apart) ∙ at) in (k.0, omega (arith, long, k.1), before k.0 k.1 ∙ k.2)
      ];
      rises = λ j k a b low below at_j at_k. elim (cases_lt k count) [
        | inl under ↦ stack.rises j k a b low under (sym (entry j (omega arith)) ∙ at_j) (sym (entry k under) ∙ at_k)
        | inr past ↦
            let is_top : depth ≡ b = same_level (sym (top k (omega (arith, below, long)) (λ less. absurd (omega arith))) ∙ at_k) in
            elim (cases_lt j count) [
              | inl under ↦
                  let at = stack.each j under in
                  let same : at.0 ≡ a = same_level (sym at.2 ∙ sym (entry j under) ∙ at_j) in
                  omega (arith, at.1, same, is_top)
              | inr also ↦
                  let is_top_too : depth ≡ a = same_level (sym (top j (omega (arith, below, long, low)) (λ less. absurd (omega arith))) ∙ at_j) in
                  omega (arith, is_top, is_top_too)
            ]
      ];
      once = λ j k in_j in_k same. elim (cases_lt j count) [
        | inl low_j ↦ elim (cases_lt k count) [
          | inl low_k ↦ stack.once j k low_j low_k (sym (before j low_j) ∙ same ∙ before k low_k)
          | inr past_k ↦ absurd (unlike j low_j (sym (before j low_j) ∙ same
              ∙ ap (λ (i : ℕ). get_or (path ++ v ∷ []) i 0) (at_end k count (omega (arith, in_k, long)) (λ less. absurd (omega arith))) ∙ last))
        ]
        | inr past_j ↦ elim (cases_lt k count) [
          | inl low_k ↦ absurd (unlike k low_k (sym (before k low_k) ∙ sym same
              ∙ ap (λ (i : ℕ). get_or (path ++ v ∷ []) i 0) (at_end j count (omega (arith, in_j, long)) (λ less. absurd (omega arith))) ∙ last))
          | inr past_k ↦ omega (arith, in_j, in_k, long, past_j, past_k)
        ]
      ];
    }

-- the groups from a level on are joined
joined_levels : (level : ℕ) (p : Place) (l : ℕ) → level_of (joined level p) ≡ Some l → (k : ℕ) × (level_of p ≡ Some k) × (l ≡ min k level)
joined_levels level Unseen l is = absurd (cc)
joined_levels level (Open k) l is = (k, refl, sym (same_level is))
joined_levels level (Followed k) l is = (k, refl, sym (same_level is))
joined_levels level (Closed c) l is = absurd (cc)

joined_level : (level : ℕ) (p : Place) (k : ℕ) → level_of p ≡ Some k → level_of (joined level p) ≡ Some (min k level)
joined_level level Unseen k is = absurd (cc)
joined_level level (Open j) k is = ap (λ (i : ℕ). Some (min i level)) (same_level is)
joined_level level (Followed j) k is = ap (λ (i : ℕ). Some (min i level)) (same_level is)
joined_level level (Closed c) k is = absurd (cc)

pub joined_stack : (old new : List Place) (depth level : ℕ) (path : List ℕ) → ((v : ℕ) → place_at new v ≡ joined level (place_at old v))
    → IsStack old depth path → IsStack new (level + 1) path
joined_stack old new depth level path is stack =
    let back : (v l : ℕ) → level_of (place_at new v) ≡ Some l → (k : ℕ) × (level_of (place_at old v) ≡ Some k) × (l ≡ min k level) =
    λ v l at. joined_levels level (place_at old v) l (sym (ap level_of (is v)) ∙ at) in
    record {
      each = λ k below.
          let at = stack.each k below in
          (min at.0 level, omega arith, ap level_of (is (get_or path k 0)) ∙ joined_level level (place_at old (get_or path k 0)) at.0 at.2);
      all = λ v l at. let was = back v l at in stack.all v was.0 was.1;
      rises = λ j k a b low below at_j at_k.
          let was_j = back (get_or path j 0) a at_j in
          let was_k = back (get_or path k 0) b at_k in
          let rise : was_j.0 ≤ was_k.0 = stack.rises j k was_j.0 was_k.0 low below was_j.1 was_k.1 in
          omega (arith, rise, was_j.2, was_k.2);
      once = stack.once;
    }

-- the top group becomes a component

closed_at : (level number : ℕ) (p : Place) → level_of p ≡ Some level → closed level number p ≡ Closed number
closed_at level number Unseen is = absurd (cc)
closed_at level number (Open j) is = elim (eqb_tells j level) [
  | inl same ↦ rw same.0 refl
  | inr off ↦ absurd (off.1 (same_level is))
]
closed_at level number (Followed j) is = elim (eqb_tells j level) [
  | inl same ↦ rw same.0 refl
  | inr off ↦ absurd (off.1 (same_level is))
]
closed_at level number (Closed c) is = absurd (cc)

closed_off : (level number : ℕ) (p : Place) → level_of p ≢ Some level → closed level number p ≡ p
closed_off level number Unseen off = refl
closed_off level number (Open j) off = elim (eqb_tells j level) [
  | inl same ↦ absurd (off (ap Some same.1))
  | inr is ↦ rw is.0 refl
]
closed_off level number (Followed j) off = elim (eqb_tells j level) [
  | inl same ↦ absurd (off (ap Some same.1))
  | inr is ↦ rw is.0 refl
]
closed_off level number (Closed c) off = refl

cases_level : (level : ℕ) (p : Place) → (level_of p ≡ Some level) ⊎ (level_of p ≢ Some level)
cases_level level Unseen = inr (λ same. (cc))
cases_level level (Open j) = elim (cases_eq j level) [
  | inl same ↦ inl (ap Some same)
  | inr off ↦ inr (λ same. off (same_level same))
]
cases_level level (Followed j) = elim (cases_eq j level) [
  | inl same ↦ inl (ap Some same)
  | inr off ↦ inr (λ same. off (same_level same))
]
cases_level level (Closed c) = inr (λ same. (cc))

-- the entries from here on are closed, and nothing else is changed
pub record IsClosing (old new : List Place) (all path : List ℕ) (level number : ℕ) : Type 0 where
  pub same_length : length new ≡ length old
  pub short : length path ≤ length all
  pub prefix : (k : ℕ) → k < length path → get_or path k 0 ≡ get_or all k 0
  pub gone : (k : ℕ) → length path ≤ k → k < length all → (place_at new (get_or all k 0) ≡ Closed number) × EntryAt old all k level
  pub rest : (v : ℕ) → ((k : ℕ) → length path ≤ k → k < length all → get_or all k 0 ≢ v) → place_at new v ≡ place_at old v

pub none_closed : (places : List Place) (path : List ℕ) (level number : ℕ) → IsClosing places places path path level number
none_closed places path level number = record {
  same_length = refl;
  short = omega arith;
  prefix = λ k below. refl;
  gone = λ k past below. absurd (omega arith);
  rest = λ v others. refl;
}

module _ (old new : List Place) (all path : List ℕ) (level number : ℕ) (stack : IsStack old (level + 1) all)
    (so_far : IsClosing old new all path level number) where
  pub still_inside : (k : ℕ) → k < length path → get_or path k 0 < length new
  still_inside k below =
      let entry : get_or all k 0 < length old = entry_inside old (level + 1) all stack k (omega (arith, below, so_far.short)) in
      omega (arith, entry, so_far.prefix k below, so_far.same_length)

  -- an entry that is left has its place
  entry_kept : (k : ℕ) → k < length path → place_at new (get_or all k 0) ≡ place_at old (get_or all k 0)
  entry_kept k below =
      so_far.rest (get_or all k 0)
      (λ j past inside same.
      let one : j ≡ k = stack.once j k inside (omega (arith, below, so_far.short)) same in
      omega (arith, one, past, below))

  -- one more entry is closed
  pub one_closed : (at : ℕ) (less : List ℕ) → 0 < length path → at ≡ get_or path (length path - 1) 0
      → level_of (place_at new at) ≡ Some level → less ≡ take (length path - 1) path
      → IsClosing old (set new at (Closed number)) all less level number
  one_closed at less some is on is_less =
      let m : ℕ = length path - 1 in
      let below : m < length path = omega arith in
      let short : length less ≡ m = ap length is_less ∙ length-take-le m path (omega arith) in
      let entry : at ≡ get_or all m 0 = is ∙ so_far.prefix m below in
      let inside : at < length new = omega (arith, is, still_inside m below) in
      record {
        same_length = length-set new at (Closed number) ∙ so_far.same_length;
        short = omega (arith, short, so_far.short);
        prefix = λ k under.
            ap (λ (ks : List ℕ). get_or ks k 0) is_less ∙ get_or-take m path k 0 (omega (arith, under, short)) ∙ so_far.prefix k (omega (arith, under, short));
        gone = λ k past within. elim (cases_eq k m) [
          | inl here ↦
              let same : get_or all k 0 ≡ at = ap (λ (i : ℕ). get_or all i 0) here ∙ sym entry in (
                ap (place_at (set new at (Closed number))) same ∙ get_or-set_same new at (Closed number) Unseen inside,
                ap (λ (v : ℕ). level_of (place_at old v)) (same ∙ entry) ∙ ap level_of (sym (entry_kept m below))
                    ∙ ap (λ (v : ℕ). level_of (place_at new v)) (sym entry) ∙ on,
              )
          | inr later ↦
              let before = so_far.gone k (omega (arith, past, short, later)) within in
              let apart : get_or all k 0 ≢ at = λ same. later (stack.once k m within (omega (arith, below, so_far.short)) (same ∙ entry)) in
              (get_or-set_other new at (get_or all k 0) (Closed number) Unseen apart ∙ before.0, before.1)
        ];
        rest = λ v others.
            let apart : v ≢ at = λ same. others m (omega (arith, short)) (omega (arith, below, so_far.short)) (sym (same ∙ entry)) in
            get_or-set_other new at v (Closed number) Unseen apart ∙ so_far.rest v (λ k past within. others k (omega (arith, past, short)) within);
      }

  module _ (none : 0 < length path → level_of (place_at new (get_or path (length path - 1) 0)) ≢ Some level) where
    -- what is left is below the level
    lower : (k l : ℕ) → k < length path → EntryAt old all k l → l < level
    lower k l below at =
        let m : ℕ = length path - 1 in
        let last = stack.each m (omega (arith, below, so_far.short)) in
        let rise : l ≤ last.0 = stack.rises k m l last.0 (omega arith) (omega (arith, below, so_far.short)) at last.2 in
        elim (cases_eq last.0 level) [
          | inl same ↦
              let on : level_of (place_at new (get_or path m 0)) ≡ Some level =
              ap (λ (v : ℕ). level_of (place_at new v)) (so_far.prefix m (omega arith)) ∙ ap level_of (entry_kept m (omega arith)) ∙ last.2 ∙ ap Some same in
              absurd (none (omega arith) on)
          | inr apart ↦ omega (arith, rise, last.1, apart)
        ]

    pub all_closed : (v : ℕ) → place_at new v ≡ closed level number (place_at old v)
    all_closed v = elim (cases_level level (place_at old v)) [
      | inl at ↦
          let k = stack.all v level at in
          let here : EntryAt old all k.0 level = ap (λ (u : ℕ). level_of (place_at old u)) k.2 ∙ at in
          elim (cases_lt k.0 (length path)) [
            | inl below ↦ let less : level < level = lower k.0 level below here in absurd (omega arith)
            | inr past ↦ ap (place_at new) (sym k.2) ∙ (so_far.gone k.0 past k.1).0 ∙ sym (closed_at level number (place_at old v) at)
          ]
      | inr off ↦
          so_far.rest v (λ k past within same. off (ap (λ (u : ℕ). level_of (place_at old u)) (sym same) ∙ (so_far.gone k past within).1))
          ∙ sym (closed_off level number (place_at old v) off)
    ]

    -- an entry that is left has its level
    level_kept : (k l : ℕ) → k < length path → EntryAt new path k l → EntryAt old all k l
    level_kept k l below at = sym (ap level_of (entry_kept k below)) ∙ ap (λ (v : ℕ). level_of (place_at new v)) (sym (so_far.prefix k below)) ∙ at

    pub closed_stack : IsStack new level path
    closed_stack = record {
      each = λ k below.
          let was = stack.each k (omega (arith, below, so_far.short)) in
          (was.0, lower k was.0 below was.2, ap (λ (v : ℕ). level_of (place_at new v)) (so_far.prefix k below) ∙ ap level_of (entry_kept k below) ∙ was.2);
      all = λ v l at. elim (cases_level level (place_at old v)) [
        | inl on ↦
            let none_left : place_at new v ≡ Closed number = all_closed v ∙ closed_at level number (place_at old v) on in
            absurd (cc (none_left, at))
        | inr off ↦
            let same : place_at new v ≡ place_at old v = all_closed v ∙ closed_off level number (place_at old v) off in
            let k = stack.all v l (sym (ap level_of same) ∙ at) in
            elim (cases_lt k.0 (length path)) [
              | inl below ↦ (k.0, below, so_far.prefix k.0 below ∙ k.2)
              | inr past ↦
                  let gone : place_at new v ≡ Closed number = ap (place_at new) (sym k.2) ∙ (so_far.gone k.0 past k.1).0 in
                  absurd (cc (gone, at))
            ]
      ];
      rises = λ j k a b low below at_j at_k.
          stack.rises j k a b low (omega (arith, below, so_far.short)) (level_kept j a (omega arith) at_j) (level_kept k b below at_k);
      once = λ j k in_j in_k same.
          stack.once j k (omega (arith, in_j, so_far.short)) (omega (arith, in_k, so_far.short)) (sym (so_far.prefix j in_j) ∙ same ∙ so_far.prefix k in_k);
    }

-- No vertex is open at the top, where none of the entries from a position on is, and the one before it is lower.
pub none_open : (places : List Place) (top : ℕ) (path : List ℕ) (m : ℕ) → IsStack places (top + 1) path → m ≤ length path
    → ((k : ℕ) → m ≤ k → k < length path → place_at places (get_or path k 0) ≢ Open top)
    → (0 < m → level_of (place_at places (get_or path (m - 1) 0)) ≢ Some top) → (v : ℕ) → place_at places v ≢ Open top
none_open places top path m stack short none off v is_open =
    let k = stack.all v top (ap level_of is_open) in
    elim (cases_lt k.0 m) [
      | inl below ↦
          let last = stack.each (m - 1) (omega (arith, below, short)) in
          let here : EntryAt places path k.0 top = ap (λ (u : ℕ). level_of (place_at places u)) k.2 ∙ ap level_of is_open in
          let rise : top ≤ last.0 = stack.rises k.0 (m - 1) top last.0 (omega (arith, below)) (omega (arith, below, short)) here last.2 in
          let same : last.0 ≡ top = omega (arith, rise, last.1) in
          off (omega (arith, below)) (last.2 ∙ ap Some same)
      | inr past ↦ none k.0 past k.1 (ap (place_at places) k.2 ∙ is_open)
    ]

-- a correct step is one that the stack can take
pub suits : (g : Graph) (places : List Place) (depth : ℕ) (step : Step) → IsStep g places depth step → Suits places depth step
suits g places depth (Enter v) is = is.1
suits g places depth (Follow v) is = λ top on_top. is.3 ∙ ap Open (omega (arith, on_top, is.1))
suits g places depth (Join level) is = tt
suits g places depth Close is = tt
