-- Arrivals put in by their places stand by ascending turn.
use Rattle.std.proofs.Common.{◌≡◌, ℕ, suc, ◌+◌, ◌<◌, ◌≤◌, ◌==◌, true, false, List, [], ◌∷◌, ◌++◌, Some, All, filter, refl, ap, sym, ◌∙◌, arith, inl, inr, nat_lt, nat_le, lt-ltb, take, length, append_assoc, append-nil, get_or}
use Rattle.std.specs.Prelude.{slice_get}
use Rattle.std.specs.List.{AllByRecursion, fold}
use Rattle.std.specs.BTreeSet.{insert_key}
use Rattle.std.specs.declared.cmp.Ordering.TheVariants.{Less, Greater}
use Rattle.std.proofs.lemmas.Bool.{cases_Bool}
use Rattle.std.proofs.lemmas.Bool.Decides.{nat_tests}
use Rattle.std.proofs.lemmas.Grind.{flat_map-append, fold-append}
use Rattle.std.proofs.lemmas.List.Elements.{All-weaker, recursion_from_All}
use Rattle.std.specs.Option.{option_to_list}
use Rattle.std.proofs.Math.Seq.{take-suc}
use Rattle.std.proofs.lemmas.Option.{get_or_from_slice_get, slice_get_past, slice_get_read, slice_get_within}
use Rattle.std.proofs.lemmas.Map.Views.{All-insert_key}
use Rattle.plan_text.specs.declared.plan.Arrival.{Arrival}
use Rattle.replica_seat.specs.Feed.{arrivals_at, at_turn, put_by_turn, timed}
use Rattle.replica_seat.specs.Places.{IsPlaced, at_places, place_cmp, with_place}
use Rattle.replica_seat.specs.declared.arrivals.TimedTx.{TimedTx}

less : (p m q n : ℕ) → p < q → place_cmp (p, m) (q, n) ≡ Less
less p m q n below = let first : nat_lt p q ≡ true = lt-ltb p q below in rw first

greater : (p m q n : ℕ) → q ≤ p → n < m → place_cmp (p, m) (q, n) ≡ Greater
greater p m q n from below =
    let not_first : nat_lt p q ≡ false = grind (arith, nat_tests) in
    let not_second : nat_lt m n ≡ false = grind (arith, nat_tests) in
    let not_same : (m == n) ≡ false = grind (arith, nat_tests) in
    elim (cases_Bool (p == q)) [
      | inl same ↦ rw (not_first, same, not_second, not_same)
      | inr other ↦ rw (not_first, other)
    ]

put_in : (arrivals : List Arrival) (place : ℕ) (a : Arrival) → slice_get arrivals place ≡ Some a
    → (places : List (ℕ × ℕ)) → AllByRecursion (IsPlaced arrivals place) places
    → at_places arrivals (insert_key place_cmp places (a.turn, place)) ≡ put_by_turn (at_places arrivals places) a
put_in arrivals place a there [] all = rw there refl
put_in arrivals place a there (p ∷ ps) all =
    let b = all.0.arrival in
    let here : slice_get arrivals p.1 ≡ Some b = all.0.there in
    elim (cases_Bool (nat_le b.turn a.turn)) [
      | inl following ↦
          let under : p.0 ≤ a.turn = grind (arith, nat_tests, all.0.turn) in
          let rest = put_in arrivals place a there ps all.1 in
          rw (greater a.turn place p.0 p.1 under all.0.before, here, following) (ap (λ xs. b ∷ xs) rest)
      | inr ahead ↦
          let below : a.turn < p.0 = grind (arith, nat_tests, all.0.turn) in
          rw (less a.turn place p.0 p.1 below, here, there, ahead) refl
    ]

put_in_place : (arrivals : List Arrival) (place : ℕ) (a : Arrival) (places : List (ℕ × ℕ)) → slice_get arrivals place ≡ Some a
    → All (IsPlaced arrivals place) places
    → at_places arrivals (insert_key place_cmp places (a.turn, place)) ≡ put_by_turn (at_places arrivals places) a
put_in_place arrivals place a places there all = put_in arrivals place a there places (recursion_from_All _ places all)

later : (arrivals : List Arrival) (place : ℕ) (p : ℕ × ℕ) → IsPlaced arrivals place p → IsPlaced arrivals (place + 1) p
later arrivals place p is = record { arrival = is.arrival; there = is.there; turn = is.turn; before = omega (arith, is.before) }

placed_later : (arrivals : List Arrival) (place : ℕ) (places : List (ℕ × ℕ)) → All (IsPlaced arrivals place) places → All (IsPlaced arrivals (place + 1)) places
placed_later arrivals place places all = All-weaker _ _ (later arrivals place) places all

placed_more : (arrivals : List Arrival) (place : ℕ) (a : Arrival) (places : List (ℕ × ℕ)) → slice_get arrivals place ≡ Some a
    → All (IsPlaced arrivals place) places
    → All (IsPlaced arrivals (place + 1)) (insert_key place_cmp places (a.turn, place))
placed_more arrivals place a places there all =
    All-insert_key place_cmp (a.turn, place) (IsPlaced arrivals (place + 1)) places (placed_later arrivals place places all)
    (record { arrival = a; there = there; turn = refl; before = omega arith })

arrivals_more : (xs : List Arrival) (a : Arrival) (replica : ℕ) → (a.replica == replica) ≡ true
    → arrivals_at (xs ++ a ∷ []) replica ≡ put_by_turn (arrivals_at xs replica) a
arrivals_more xs a replica mine =
    let kept : filter (λ (x : Arrival). x.replica == replica) (xs ++ a ∷ []) ≡ filter (λ x. x.replica == replica) xs ++ a ∷ [] = filter_more xs in
    ap (fold put_by_turn []) kept ∙ fold-append put_by_turn [] (filter (λ x. x.replica == replica) xs) (a ∷ [])
  where
    filter_more : (ys : List Arrival) → filter (λ (x : Arrival). x.replica == replica) (ys ++ a ∷ []) ≡ filter (λ x. x.replica == replica) ys ++ a ∷ []
    filter_more [] = rw mine refl
    filter_more (y ∷ ys) =
        let rest = filter_more ys in
        elim (cases_Bool (y.replica == replica)) [
          | inl holds_so ↦ rw holds_so (ap (λ zs. y ∷ zs) rest)
          | inr fails_so ↦ rw fails_so rest
        ]

arrivals_same : (xs : List Arrival) (a : Arrival) (replica : ℕ) → (a.replica == replica) ≡ false
    → arrivals_at (xs ++ a ∷ []) replica ≡ arrivals_at xs replica
arrivals_same xs a replica other = ap (fold put_by_turn []) (filter_same xs)
  where
    filter_same : (ys : List Arrival) → filter (λ (x : Arrival). x.replica == replica) (ys ++ a ∷ []) ≡ filter (λ x. x.replica == replica) ys
    filter_same [] = rw other refl
    filter_same (y ∷ ys) =
        let rest = filter_same ys in
        elim (cases_Bool (y.replica == replica)) [
          | inl holds_so ↦ rw holds_so (ap (λ zs. y ∷ zs) rest)
          | inr fails_so ↦ rw fails_so rest
        ]

-- the arrivals so far, and one more
taken_more : (arrivals : List Arrival) (place : ℕ) (a : Arrival) → slice_get arrivals place ≡ Some a → take (place + 1) arrivals ≡ take place arrivals ++ a ∷ []
taken_more arrivals place a here =
    let below : place < length arrivals = slice_get_within arrivals place a here in
    let e : place + 1 ≡ suc place = omega arith in
    ap (λ k. take k arrivals) e ∙ take-suc arrivals place a below ∙ ap (λ x. take place arrivals ++ x ∷ []) (get_or_from_slice_get arrivals place a a here)

pub placed_with : (arrivals : List Arrival) (places : List (ℕ × ℕ)) (a : Arrival) (replica place : ℕ) → slice_get arrivals place ≡ Some a
    → All (IsPlaced arrivals place) places
    → All (IsPlaced arrivals (place + 1)) (with_place places a replica place)
placed_with arrivals places a replica place here all =
    elim (cases_Bool (a.replica == replica)) [
      | inl mine ↦ rw mine (placed_more arrivals place a places here all)
      | inr other ↦ rw other (placed_later arrivals place places all)
    ]

pub same_with : (arrivals : List Arrival) (places : List (ℕ × ℕ)) (a : Arrival) (replica place : ℕ) → slice_get arrivals place ≡ Some a
    → All (IsPlaced arrivals place) places
    → at_places arrivals places ≡ arrivals_at (take place arrivals) replica
    → at_places arrivals (with_place places a replica place) ≡ arrivals_at (take (place + 1) arrivals) replica
same_with arrivals places a replica place here all same =
    let more = taken_more arrivals place a here in
    elim (cases_Bool (a.replica == replica)) [
      | inl mine ↦ rw (mine, more) (put_in_place arrivals place a places here all ∙ ap (λ xs. put_by_turn xs a) same
          ∙ sym (arrivals_more (take place arrivals) a replica mine))
      | inr other ↦ rw (other, more) (same ∙ sym (arrivals_same (take place arrivals) a replica other))
    ]

-- the arrival at the first place, and those after it
pub timed_more : (arrivals : List Arrival) (p : ℕ × ℕ) (places rest : List (ℕ × ℕ)) (list : List TimedTx) → places ≡ p ∷ rest
    → (list ++ timed (option_to_list (slice_get arrivals p.1))) ++ timed (at_places arrivals rest) ≡ list ++ timed (at_places arrivals places)
timed_more arrivals p places rest list first =
    rw first (append_assoc list (timed (option_to_list (slice_get arrivals p.1))) (timed (at_places arrivals rest))
    ∙ ap (λ xs. list ++ xs) (sym (flat_map-append (λ (a : Arrival). at_turn a.turn a.txs) (option_to_list (slice_get arrivals p.1)) (at_places arrivals rest))))

pub timed_read : (arrivals : List Arrival) (place : ℕ) (a : Arrival) (list : List TimedTx) → place < length arrivals → a ≡ get_or arrivals place a
    → list ++ timed (option_to_list (slice_get arrivals place)) ≡ list ++ at_turn a.turn a.txs
timed_read arrivals place a list below is =
    rw (slice_get_read arrivals (length arrivals) place a refl below is) (ap (λ xs. list ++ xs) (append-nil (at_turn a.turn a.txs)))

pub timed_past : (arrivals : List Arrival) (place : ℕ) (list : List TimedTx) → length arrivals ≤ place
    → list ++ timed (option_to_list (slice_get arrivals place)) ≡ list
timed_past arrivals place list past = rw (slice_get_past arrivals place past) (append-nil list)
