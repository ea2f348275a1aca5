-- What each change of a desk keeps of its invariant.
use Rattle.std.proofs.Common.{◌≡◌, ◌≢◌, ◌<◌, ◌≤◌, ◌+◌, ◌==◌, ◌||◌, ℕ, List, [], ◌∷◌, ◌++◌, map, filter, max, All, Bool, true, false, not, cond, true≢false, refl, sym, ap, subst, ◌∙◌, inl, inr, arith, length, slice_set, slice_index_or, count_by, Option, None, Some, is_some, if◌then◌else◌, fold, nat_le, nat_lt, ◌-◌, suc, take, append_assoc, length-append}
use Rattle.std.specs.List.{list_any, IsDistinct}
use Rattle.std.specs.Map.{lookup, keys_of, values_of}
use Rattle.std.proofs.lemmas.Bool.{cases_Bool, leb-false, lt-ltb}
use Rattle.std.proofs.lemmas.List.{length-set, get_or-set_same, get_or-set_other, set-set, set-get_or}
use Rattle.std.proofs.lemmas.List.Elements.{All-set, All-map, All-weaker, All-filter, All-push, All-head, All-tail}
use Rattle.std.proofs.lemmas.List.Sums.{sum_by_push, sum_by-cons, length-filter}
use Rattle.indexmap.specs.IndexMap.{insert_entry}
use Rattle.seq_base.specs.declared.tx.Tx.{Tx}
use Rattle.seq_base.specs.Tx.{tx_eq, tx_eq_decides}
use Rattle.intake.specs.declared.slot.Slot.{Slot}
use Rattle.intake.specs.declared.slot.Receipt.{Receipt}
use Rattle.intake.specs.declared.slot.Taken.TheVariants.{Final, Held, Full, New}
use Rattle.intake.specs.Keys.{limit, adopted_of, count_from}
use Rattle.intake.specs.Desk.{Desk, IsDesk, AreCharges, charged, charged_in, quota, is_final, is_held, next_stamp, waits, own_stamp}
use Rattle.intake.specs.Receiving.{stamped, own_slot, without, is_new, is_late, answer_of, restore_answer, changed_at, with_slot, receipt_of}
use Rattle.intake.proofs.Entries.{count-map, count-filter, change-present, change-absent}

pub clock_set : {d : Desk} (peer clock : ℕ) → IsDesk d → clock < limit → IsDesk (record d { clocks = slice_set d.clocks peer clock })
clock_set {d} peer clock is below = record {
  few = is.few;
  own = is.own;
  clocks = length-set d.clocks peer clock ∙ is.clocks;
  clocks_below = All-set (λ c. c < limit) d.clocks peer clock below is.clocks_below;
  clock_below = is.clock_below;
  sources = is.sources;
  within = is.within;
}

module _ (g : Tx × Slot → Tx × Slot) (same : (e : Tx × Slot) → (g e).1.source ≡ e.1.source) where
  charged_map : (s : ℕ) (held : List (Tx × Slot)) → charged_in s (map g held) ≡ charged_in s held
  charged_map s held = count-map (λ e. e.1.source == s) g (λ e. ap (λ x. x == s) (same e)) held

  -- slots changed, each with its source
  pub slots_changed : {d : Desk} → IsDesk d → IsDesk (record d { held = map g d.held })
  slots_changed {d} is = record {
    few = is.few;
    own = is.own;
    clocks = is.clocks;
    clocks_below = is.clocks_below;
    clock_below = is.clock_below;
    sources = All-map (λ e. e.1.source ≤ d.n + 1) g d.held
        (All-weaker (λ e. e.1.source ≤ d.n + 1) (λ e. (g e).1.source ≤ d.n + 1)
        (λ e at_most. subst (λ s. s ≤ d.n + 1) (sym (same e)) at_most) d.held is.sources);
    within = λ s known. subst (λ c. c ≤ quota s d) (sym (charged_map s d.held)) (is.within s known);
  }

  pub charges_changed : (charges : List ℕ) (held : List (Tx × Slot)) → AreCharges charges held → AreCharges charges (map g held)
  charges_changed charges held are = (are.0, λ s few. are.1 s few ∙ sym (charged_map s held))

at_most : (a b quota : ℕ) → a ≤ b → b ≤ quota → a ≤ quota
at_most a b quota one two = omega (arith, one, two)

one_more : (a b quota : ℕ) → a ≡ b + 1 → b < quota → a ≤ quota
one_more a b quota is room = omega (arith, is, room)

-- what is final leaves
pub finals_left : {d : Desk} (finals : List Tx) → IsDesk d → IsDesk (record d { finals = finals; held = without finals d.held })
finals_left {d} finals is = record {
  few = is.few;
  own = is.own;
  clocks = is.clocks;
  clocks_below = is.clocks_below;
  clock_below = is.clock_below;
  sources = All-filter (λ e. not (list_any (tx_eq e.0) finals)) (λ e. e.1.source ≤ d.n + 1) d.held is.sources;
  within = λ s known.
      at_most _ _ (quota s d) (count-filter (λ (e : Tx × Slot). e.1.source == s) (λ e. not (list_any (tx_eq e.0) finals)) d.held) (is.within s known);
}

-- one more entry of a source
charged_push : (s : ℕ) (held : List (Tx × Slot)) (e : Tx × Slot) → charged_in s (held ++ e ∷ []) ≡ charged_in s held + cond (e.1.source == s) 1 0
charged_push s held e = sum_by_push (λ (x : Tx × Slot). cond (x.1.source == s) 1 0) held e

pub receipt_added : {d : Desk} (stamp : ℕ) (arrived : Bool) (source : ℕ) (tx : Tx) → IsDesk d → stamp < limit → source ≤ d.n + 1
    → (source ≤ d.n → charged source d < quota source d) → IsDesk (stamped stamp arrived source tx d)
receipt_added {d} stamp arrived source tx is below known room = record {
  few = is.few;
  own = is.own;
  clocks = length-set d.clocks d.me stamp ∙ is.clocks;
  clocks_below = All-set (λ c. c < limit) d.clocks d.me stamp below is.clocks_below;
  clock_below = below;
  sources = All-push (λ e. e.1.source ≤ d.n + 1) d.held (tx, own_slot d.me stamp arrived source) is.sources known;
  within = λ s bounded.
      let count : charged_in s (d.held ++ (tx, own_slot d.me stamp arrived source) ∷ []) ≡ charged_in s d.held + cond (source == s) 1 0 =
      charged_push s d.held (tx, own_slot d.me stamp arrived source) in
      let before : charged_in s d.held ≤ quota s d = is.within s bounded in
      elim (cases_Bool (source == s)) [
        | inl own ↦
            let is_same : source ≡ s = grind (arith, own) in
            let few : charged_in s d.held < quota s d =
            subst (λ x. charged_in x d.held < quota x d) is_same (room (subst (λ x. x ≤ d.n) (sym is_same) bounded)) in
            let one : charged_in s (d.held ++ (tx, own_slot d.me stamp arrived source) ∷ []) ≡ charged_in s d.held + 1 = rw own at count in
            one_more _ _ (quota s d) one few
        | inr away ↦
            let none : charged_in s (d.held ++ (tx, own_slot d.me stamp arrived source) ∷ []) ≡ charged_in s d.held + 0 = rw away at count in
            at_most _ _ (quota s d) (omega (arith, none)) before
      ];
}

pub charges_added : (charges : List ℕ) (held : List (Tx × Slot)) (e : Tx × Slot) (charge : ℕ) → e.1.source ≤ 17 → charge ≡ charged_in e.1.source held
    → AreCharges charges held → AreCharges (slice_set charges e.1.source (charge + 1)) (held ++ e ∷ [])
charges_added charges held e charge known is are = (
  length-set charges e.1.source (charge + 1) ∙ are.0,
  λ s few.
      let count = charged_push s held e in
      elim (cases_Bool (e.1.source == s)) [
        | inl own ↦
            let is_same : e.1.source ≡ s = grind (arith, own) in
            let one : charged_in s (held ++ e ∷ []) ≡ charged_in s held + 1 = rw own at count in
            let put : slice_index_or (slice_set charges e.1.source (charge + 1)) e.1.source 0 ≡ charge + 1 =
            get_or-set_same charges e.1.source (charge + 1) 0 (omega (arith, are.0, known)) in
            subst (λ x. slice_index_or (slice_set charges e.1.source (charge + 1)) x 0 ≡ charged_in s (held ++ e ∷ [])) is_same
            (put ∙ ap (λ x. x + 1) (is ∙ ap (λ x. charged_in x held) is_same) ∙ sym one)
        | inr away ↦
            let apart : s ≢ e.1.source = λ is_same. true≢false (sym (grind (arith, is_same)) ∙ away) in
            let none : charged_in s (held ++ e ∷ []) ≡ charged_in s held + 0 = rw away at count in
            get_or-set_other charges e.1.source s (charge + 1) 0 apart ∙ are.1 s few ∙ omega (arith, none)
      ],
)

-- what the answer New says
kept_parts : (final held late : Bool) → is_new (if final then Final else if held then Held else if late then Full else New) ≡ true
    → (held ≡ false) × (late ≡ false)
kept_parts true held late new = absurd (true≢false (sym new))
kept_parts false true late new = absurd (true≢false (sym new))
kept_parts false false true new = absurd (true≢false (sym new))
kept_parts false false false new = (refl, refl)

pub new_is_absent : (tx : Tx) (d : Desk) → is_new (restore_answer tx d) ≡ true → is_held tx d ≡ false
new_is_absent tx d new = (kept_parts (is_final tx d) (is_held tx d) (is_late d) new).0

pub new_is_early : (tx : Tx) (d : Desk) → is_new (restore_answer tx d) ≡ true → next_stamp d < limit
new_is_early tx d new = let early : nat_le limit (next_stamp d) ≡ false = (kept_parts (is_final tx d) (is_held tx d) (is_late d) new).1 in
    leb-false limit (next_stamp d) early

new_parts : (final held quota late : Bool) → is_new (if final then Final else if held then Held else if quota || late then Full else New) ≡ true
    → (quota ≡ false) × (is_new (if final then Final else if held then Held else if late then Full else New) ≡ true)
new_parts true held quota late new = absurd (true≢false (sym new))
new_parts false true quota late new = absurd (true≢false (sym new))
new_parts false false true late new = absurd (true≢false (sym new))
new_parts false false false late new = (refl, new)

pub new_is_restorable : (source : ℕ) (tx : Tx) (d : Desk) → is_new (answer_of source tx d) ≡ true → is_new (restore_answer tx d) ≡ true
new_is_restorable source tx d new = (new_parts (is_final tx d) (is_held tx d) (nat_le (quota source d) (charged source d)) (is_late d) new).1

pub new_has_room : (source : ℕ) (tx : Tx) (d : Desk) → is_new (answer_of source tx d) ≡ true → charged source d < quota source d
new_has_room source tx d new =
    leb-false (quota source d) (charged source d) (new_parts (is_final tx d) (is_held tx d) (nat_le (quota source d) (charged source d)) (is_late d) new).0

-- the bounds by number
pub own_few : {d : Desk} (source : ℕ) → IsDesk d → source ≡ d.me → charged source d ≤ 16384
own_few {d} source is own =
    let mine : (source == d.me) ≡ true = grind (arith, own) in
    let few : charged source d ≤ quota source d = is.within source (omega (arith, own, is.own)) in
    rw mine at few

pub others_few : {d : Desk} (source : ℕ) → IsDesk d → source ≤ d.n → source ≢ d.me → charged source d ≤ 4096
others_few {d} source is known other =
    let few : charged source d ≤ quota source d = is.within source known in
    elim (cases_Bool (source == d.me)) [
      | inl own ↦ absurd (other (grind (arith, own)))
      | inr away ↦ rw away at few
    ]

-- a greatest one of smaller numbers
max_below : (l a : ℕ) (xs : List ℕ) → a < l → All (λ c. c < l) xs → fold max a xs < l
max_below l a [] below all = below
max_below l a (x ∷ xs) below all =
    let first : x < l = All-head (λ c. c < l) x xs all in
    max_below l (max a x) xs (omega (arith, below, first)) (All-tail (λ c. c < l) x xs all)

pub adopted_below : (f : ℕ) (clocks : List ℕ) → All (λ c. c < limit) clocks → adopted_of f clocks < limit
unfolding adopted_of
adopted_below f clocks below = max_below limit 0 _ (omega arith) (All-filter (λ c. nat_le (f + 1) (count_from c clocks)) (λ c. c < limit) clocks below)

-- one slot changed, or none where the transaction is not held
pub changed_entries : (tx : Tx) (f : Slot → Slot) (es new : List (Tx × Slot)) (v w : Slot) → lookup (tx_eq tx) es ≡ Some v → w ≡ f v
    → new ≡ insert_entry tx_eq es tx w → IsDistinct tx_eq (keys_of new) → new ≡ map (changed_at tx f) es
changed_entries tx f es new v w found is put distinct =
    let entries : new ≡ insert_entry tx_eq es tx (f v) = put ∙ ap (λ x. insert_entry tx_eq es tx x) is in
    entries ∙ change-present tx_eq (λ a b. (tx_eq_decides a b).0) tx f es v found (subst (λ l. IsDistinct tx_eq (keys_of l)) entries distinct)

pub slot_absent : (tx : Tx) (f : Slot → Slot) (d : Desk) → lookup (tx_eq tx) d.held ≡ None → d ≡ with_slot tx f d
slot_absent tx f d none = ap (λ (h : List (Tx × Slot)). record d { held = h }) (sym (change-absent tx_eq (λ a b. (tx_eq_decides a b).0) tx f d.held none))

-- a clock moved up and put back
pub clock_back : (d : Desk) (peer clock before : ℕ) → before ≡ slice_index_or d.clocks peer 0
    → record d { clocks = slice_set (slice_set d.clocks peer (max (slice_index_or d.clocks peer 0) clock)) peer before } ≡ d
clock_back d peer clock before was =
    ap (λ (l : List ℕ). record d { clocks = l })
    (set-set d.clocks peer (max (slice_index_or d.clocks peer 0) clock) before ∙ ap (λ b. slice_set d.clocks peer b) was ∙ set-get_or d.clocks peer 0)

pub none_from : {X : Type 0} (o : Option X) → is_some o ≡ false → o ≡ None
none_from None empty = refl
none_from (Some x) empty = absurd (true≢false empty)

-- how many wait
pub waiting_length : (held : List (Tx × Slot)) → count_by (λ (slot : Slot). not slot.arrived) (values_of held) ≡ length (filter waits held)
waiting_length held = values-count held ∙ sym (length-filter waits held)
  where
    values-count : (es : List (Tx × Slot)) → count_by (λ (slot : Slot). not slot.arrived) (values_of es) ≡ count_by waits es
    values-count [] = refl
    values-count (e ∷ es) =
        sum_by-cons (λ (slot : Slot). cond (not slot.arrived) 1 0) e.1 (values_of es)
        ∙ rw (values-count es) (sym (sum_by-cons (λ (x : Tx × Slot). cond (waits x) 1 0) e es))

pub sources_few : {d : Desk} → IsDesk d → All (λ e. e.1.source ≤ 17) d.held
sources_few {d} is = All-weaker (λ e. e.1.source ≤ d.n + 1) (λ e. e.1.source ≤ 17) (λ e few. omega (arith, few, is.few)) d.held is.sources

-- one more receipt of a list of bounded length
pub receipts_more : (me stamp most : ℕ) (list : List Receipt) (e : Tx × Slot) (rest : List (Tx × Slot)) → stamp < own_stamp me e → length list < most
    → (list ++ receipt_of me e ∷ [])
    ++ take (most - length (list ++ receipt_of me e ∷ [])) (map (receipt_of me) (filter (λ x. nat_lt stamp (own_stamp me x)) rest))
    ≡ list ++ take (most - length list) (map (receipt_of me) (filter (λ x. nat_lt stamp (own_stamp me x)) (e ∷ rest)))
receipts_more me stamp most list e rest later room =
    let passes : nat_lt stamp (own_stamp me e) ≡ true = lt-ltb stamp (own_stamp me e) later in
    let more = most - length (list ++ receipt_of me e ∷ []) in
    let long : length (list ++ receipt_of me e ∷ []) ≡ length list + 1 = length-append list (receipt_of me e ∷ []) in
    let left : most - length list ≡ suc more = omega (arith, long, room) in
    let tail = map (receipt_of me) (filter (λ x. nat_lt stamp (own_stamp me x)) rest) in
    rw (passes, left) (append_assoc list (receipt_of me e ∷ []) (take more tail))
