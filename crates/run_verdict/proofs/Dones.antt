-- A run is answered to be done exactly where every honest replica has finalised every due transaction.
use Rattle.std.proofs.Common.{◌≡◌, ℕ, suc, ◌+◌, ◌-◌, ◌<◌, List, [], ◌∷◌, map, Bool, true, false, true≢false, ◌&&◌, ◌||◌, Option, Some, None, refl, sym, ap, ◌∙◌, slice_get, arith, inl, inr}
use Rattle.std.specs.List.{list_all, range_with_len}
use Rattle.std.specs.Option.{option_map_or}
use Rattle.std.proofs.lemmas.Bool.{cases_Bool, or_left, or_right}
use Rattle.std.proofs.lemmas.List.FromFn.{get_or-range_with_len, length-range_with_len}
use Rattle.count_set.specs.Sets.{is_among}
use Rattle.seq_base.specs.declared.tx.Tx.{Tx}
use Rattle.seq_base.specs.Lists.{holds}
use Rattle.run_record.specs.declared.record.RunRecord.{RunRecord}
use Rattle.run_record.specs.Honest.{honest_items}
use Rattle.run_record.specs.Done.{in_all, due_of, is_finalised, hold_all}
use Rattle.run_verdict.specs.Delivered.{honest_in}
use Rattle.run_verdict.specs.Verdicts.{all_list, is_record_done, lists_all}
use Rattle.run_verdict.specs.Shown.{IsHonests, IsDue, IsFinal, HasFinished, IsDone}
use Rattle.run_verdict.proofs.TestMeanings.{honest_shows, honest_holds}
use Rattle.run_verdict.proofs.PlaceOrder.{Among}
use Rattle.run_verdict.proofs.Members.{contains_shows, contains_holds, all_shows, all_holds, any_shows, any_holds, filter_shows, filter_holds, map_shows, map_holds, holds_shows, holds_holds, items_show, items_hold}

-- what stands in all of some lists stands in each, and there is one
record InAll (lists : List (List Tx)) (tx : Tx) : Type 0 where
  some : (list : List Tx) × Among list lists
  every : (list : List Tx) → Among list lists → Among tx list

in_all_shows : (lists : List (List Tx)) (tx : Tx) → Among tx (in_all lists) → InAll lists tx
in_all_shows [] tx within = absurd within
in_all_shows (list ∷ others) tx within =
    let parts = filter_shows (λ x. list_all (holds x) others) list tx within in
    record { some = (list, inl refl); every = λ other among. each parts.0 parts.1 other among }
  where
    each : Among tx list → list_all (holds tx) others ≡ true → (other : List Tx) → Among other (list ∷ others) → Among tx other
    each here all other (inl is) = rw (← is) here
    each here all other (inr following) = holds_shows tx other (all_shows (holds tx) others all other following)

in_all_holds : (lists : List (List Tx)) (tx : Tx) → InAll lists tx → Among tx (in_all lists)
in_all_holds [] tx stands = absurd stands.some.1
in_all_holds (list ∷ others) tx stands =
    filter_holds (λ x. list_all (holds x) others) list tx (stands.every list (inl refl))
    (all_holds (holds tx) others (λ other following. holds_holds tx other (stands.every other (inr following))))

final_shows : (batches : List (List Tx)) (tx : Tx) → is_finalised batches tx ≡ true → IsFinal batches tx
final_shows batches tx some =
    let found = any_shows (holds tx) batches some in
    (found.0, contains_holds batches found.0 found.1, contains_holds found.0 tx (holds_shows tx found.0 found.2))

final_holds : (batches : List (List Tx)) (tx : Tx) → IsFinal batches tx → is_finalised batches tx ≡ true
final_holds batches tx final = any_holds (holds tx) batches final.0 (contains_shows batches final.0 final.1)
    (holds_holds tx final.0 (contains_shows final.0 tx final.2))

-- the replicas by their numbers
numbered : (n replica : ℕ) → replica < n → Among replica (range_with_len 0 n)
numbered n replica below =
    contains_shows (range_with_len 0 n) replica
    (replica, (omega (arith, length-range_with_len 0 n)), get_or-range_with_len 0 n replica replica below ∙ (omega arith))

numbered_below : (n replica : ℕ) → Among replica (range_with_len 0 n) → replica < n
numbered_below n replica within =
    let at = contains_holds (range_with_len 0 n) replica within in
    let place : at.0 < n = omega (arith, at.1, length-range_with_len 0 n) in
    omega (arith, place, at.2, get_or-range_with_len 0 n at.0 replica place)

pub one_more_lists : (run : RunRecord) (due : List Tx) (at n : ℕ) → at < n
    → all_list run due (range_with_len at (n - at))
    ≡ ((is_among run.faulty at || lists_all run due at) && all_list run due (range_with_len (at + 1) (n - (at + 1))))
one_more_lists run due at n h =
    let e : n - at ≡ suc (n - (at + 1)) = omega arith in
    ap (λ k. all_list run due (range_with_len at k)) e

module _ (run : RunRecord) where
  -- the lists of honest replicas
  owned_shows : {X : Type 0} (xs : List X) (item : ℕ × X) → Among item (honest_items (honest_in run) 0 xs) → IsHonests run xs item.0 item.1
  owned_shows xs item within =
      let o = items_show (honest_in run) 0 xs item within in
      let same : o.place ≡ item.0 = omega (arith, o.replica_is) in
      record { honest = honest_shows run item.0 o.honest_is; is = rw same at o.is }

  owned_holds : {X : Type 0} (xs : List X) (replica : ℕ) (x : X) → IsHonests run xs replica x → Among (replica, x) (honest_items (honest_in run) 0 xs)
  owned_holds xs replica x is = items_hold (honest_in run) 0 xs replica replica x is.is (omega arith) (honest_holds run replica is.honest)

  due_shows : (tx : Tx) → Among tx (due_of run.setting.n run.faulty run.arrivals) → IsDue run tx
  due_shows tx within =
      let items = honest_items (honest_in run) 0 run.arrivals in
      let all = in_all_shows (map (λ item. item.1) items) tx within in
      let one = map_shows (λ (item : ℕ × List Tx). item.1) items all.some.0 all.some.1 in
      record {
        some = (one.0.0, one.0.1, owned_shows run.arrivals one.0 one.1);
        every = λ replica list is. contains_holds list tx
            (all.every list (map_holds (λ (item : ℕ × List Tx). item.1) items (replica, list) (owned_holds run.arrivals replica list is)));
      }

  due_holds : (tx : Tx) → IsDue run tx → Among tx (due_of run.setting.n run.faulty run.arrivals)
  due_holds tx due =
      let items = honest_items (honest_in run) 0 run.arrivals in
      in_all_holds (map (λ item. item.1) items) tx
      (record {
        some =
            (due.some.1, map_holds (λ (item : ℕ × List Tx). item.1) items (due.some.0, due.some.1) (owned_holds run.arrivals due.some.0 due.some.1 due.some.2));
        every = λ list within.
            let one = map_shows (λ (item : ℕ × List Tx). item.1) items list within in
            let is = owned_shows run.arrivals one.0 one.1 in
            rw one.2 at (contains_shows one.0.1 tx (due.every one.0.0 one.0.1 is));
      })

  finished : (replica : ℕ) (o : Option (List (List Tx))) → slice_get run.batches replica ≡ o
      → option_map_or (λ batches. hold_all batches (due_of run.setting.n run.faulty run.arrivals)) o false ≡ true → HasFinished run replica
  finished replica None is holds = absurd (true≢false (sym holds))
  finished replica (Some batches) is holds = record {
    batches = batches;
    is = is;
    every = λ tx due. final_shows batches tx (all_shows (is_finalised batches) (due_of run.setting.n run.faulty run.arrivals) holds tx (due_holds tx due));
  }

  lists : (replica : ℕ) → HasFinished run replica → lists_all run (due_of run.setting.n run.faulty run.arrivals) replica ≡ true
  lists replica has =
      rw has.is
      (all_holds (is_finalised has.batches) (due_of run.setting.n run.faulty run.arrivals)
      (λ tx due. final_holds has.batches tx (has.every tx (due_shows tx due))))

  is_past : ℕ → Bool
  is_past replica = is_among run.faulty replica || lists_all run (due_of run.setting.n run.faulty run.arrivals) replica

  pub done_shows : is_record_done run ≡ true → IsDone run
  unfolding is_record_done is_past
  done_shows done = λ replica honest.
      let due = due_of run.setting.n run.faulty run.arrivals in
      let one : (is_among run.faulty replica || lists_all run due replica) ≡ true =
      all_shows is_past (range_with_len 0 run.setting.n) done replica (numbered run.setting.n replica honest.below) in
      finished replica (slice_get run.batches replica) refl (rw honest.correct at one)

  pub done_holds : IsDone run → is_record_done run ≡ true
  unfolding is_record_done is_past
  done_holds done =
      let due = due_of run.setting.n run.faulty run.arrivals in
      all_holds is_past (range_with_len 0 run.setting.n)
      (λ replica within. elim (cases_Bool (is_among run.faulty replica)) [
        | inl faulty ↦ or_left (is_among run.faulty replica) (lists_all run due replica) faulty
        | inr correct ↦ or_right (is_among run.faulty replica) (lists_all run due replica)
            (lists replica (done replica (record { below = numbered_below run.setting.n replica within; correct = correct })))
      ])
