-- Laws of keys and clocks over lists of numbers.
use Rattle.std.proofs.Common.{◌≡◌, ℕ, zero, suc, ◌+◌, ◌<◌, ◌≤◌, List, length, get_or, Bool, true, false, not, ◌&&◌, ◌||◌, leb, refl, ap, ◌∙◌, ◌⊎◌, inl, inr, arith}
use Rattle.std.specs.Prelude.{◌↔◌}
use Rattle.std.proofs.lemmas.Bool.{and_from, and_parts, cases_Bool, cases_lt, le-leb, leb-true, not-true, not_from_false, or_left}
use Rattle.seq_base.specs.Setting.{Parameters, IsValid}
use Rattle.seq_base.proofs.Points.{point}
use Rattle.count_set.specs.Sets.{size_of}
use Rattle.intake.specs.Keys.{unknown, k_of, key_of, low_of, reaches, count_upto, adopted_of, count_from}
use Rattle.intake_laws.specs.Middle.{count_below, IsMiddle}
use Rattle.intake_laws.specs.KeyClaims.{honest, AreStamps, AllKnown, AllTrue, AreStamped, IsPast}
use Rattle.intake_laws.proofs.Counting.{size_or, size_longer, size_beyond, count_as_size, middle}
use Rattle.intake_laws.proofs.LeastStamps.{key_upto, upto_key, adopted_from, from_adopted}
use Rattle.intake_laws.proofs.Closed.{key_above}
use Rattle.intake_laws.proofs.Decided.{few_faulty, member}
use Rattle.chain_laws.proofs.Members.{size_not, size_within}

pub key_is_reached : (k s : ℕ) (stamps : List ℕ) → 0 < k → s < unknown → (key_of k stamps ≤ s) ↔ (reaches k stamps s ≡ true)
key_is_reached k s stamps some small = (
  (λ within. le-leb k (count_upto s stamps) (upto_key k s stamps small within)),
  (λ reached. key_upto k s stamps some (leb-true k (count_upto s stamps) reached)),
)

pub adopted_is_reached : (f c : ℕ) (clocks : List ℕ) → (c ≤ adopted_of f clocks) ↔ ((c ≡ 0) ⊎ (f + 1 ≤ count_from c clocks))
adopted_is_reached f c clocks = (
  (λ within. from_adopted f c clocks within),
  (λ either. elim either [
    | inl none ↦ rw none (omega arith)
    | inr enough ↦ adopted_from f c clocks enough
  ]),
)

pub adopted_is_honest : (n f : ℕ) (faulty : ℕ → Bool) (clocks : List ℕ) → length clocks ≡ n → size_of n faulty ≤ f → 0 < adopted_of f clocks
    → (i : ℕ) × (i < n) × (faulty i ≡ false) × (adopted_of f clocks ≤ get_or clocks i 0)
adopted_is_honest n f faulty clocks many few some =
    elim (from_adopted f (adopted_of f clocks) clocks (omega arith)) [
      | inl none ↦ absurd (omega (arith, none, some))
      | inr enough ↦
          let as_size : count_from (adopted_of f clocks) clocks ≡ size_of (length clocks)
          (λ i. leb (adopted_of f clocks) (get_or clocks i 0)) = count_as_size (λ x. leb (adopted_of f clocks) x) clocks 0 in
          let below_n : size_of (length clocks) (λ i. leb (adopted_of f clocks) (get_or clocks i 0)) ≡ size_of n
          (λ i. leb (adopted_of f clocks) (get_or clocks i 0)) =
          ap (λ (m : ℕ). size_of m (λ i. leb (adopted_of f clocks) (get_or clocks i 0))) many in
          let one = beyond n (λ i. leb (adopted_of f clocks) (get_or clocks i 0)) faulty (omega (arith, enough, as_size, below_n, few)) in
          (one.0, one.1, one.3, leb-true (adopted_of f clocks) (get_or clocks one.0 0) one.2)
    ]
  where
    -- the larger of two sets has a member that the other lacks
    beyond : (m : ℕ) (xs ys : ℕ → Bool) → size_of m ys < size_of m xs → (r : ℕ) × (r < m) × (xs r ≡ true) × (ys r ≡ false)
    beyond zero xs ys more = absurd (omega (arith, more))
    beyond (suc m) xs ys more =
        elim (cases_Bool (xs m)) [
          | inl here ↦ elim (cases_Bool (ys m)) [
            | inl there ↦ let rest = beyond m xs ys (omega (arith, more, ap point here, ap point there)) in (rest.0, (omega (arith, rest.1)), rest.2, rest.3)
            | inr absent ↦ (m, (omega arith), here, absent)
          ]
          | inr absent ↦ let rest = beyond m xs ys (omega (arith, more, ap point absent)) in (rest.0, (omega (arith, rest.1)), rest.2, rest.3)
        ]

-- how many stamps are at most s, counted over the places of 16
upto_places : (n s : ℕ) (stamps : List ℕ) → AreStamps n stamps → count_upto s stamps ≡ size_of 16 (λ i. leb (get_or stamps i unknown) s)
upto_places n s stamps are = count_as_size (λ x. leb x s) stamps unknown ∙ ap (λ (m : ℕ). size_of m (λ i. leb (get_or stamps i unknown) s)) are.many

pub at_least : (n s : ℕ) (set : ℕ → Bool) (stamp : ℕ → ℕ) (stamps : List ℕ) → AreStamps n stamps → AllKnown n set stamp stamps
    → count_below n set stamp s ≤ count_upto s stamps
at_least n s set stamp stamps are known =
    let longer = size_longer n 16 (λ i. leb (get_or stamps i unknown) s) are.few in
    let within : size_of n (λ i. set i && leb (stamp i) s) ≤ size_of n (λ i. leb (get_or stamps i unknown) s) =
    size_within n (λ i. set i && leb (stamp i) s) (λ i. leb (get_or stamps i unknown) s)
    (λ i below is. let parts = and_parts (set i) (leb (stamp i) s) is in
    le-leb (get_or stamps i unknown) s (omega (arith, known i below parts.0, leb-true (stamp i) s parts.1))) in
    omega (arith, upto_places n s stamps are, longer, within)

-- the places of others count for nothing
pub at_most : (n s : ℕ) (stamps : List ℕ) (set : ℕ → Bool) → AreStamps n stamps → s < unknown →
    ((i : ℕ) → i < n → leb (get_or stamps i unknown) s ≡ true → set i ≡ true)
    → count_upto s stamps ≤ size_of n set
at_most n s stamps set are small each =
    let shorter : size_of 16 (λ i. leb (get_or stamps i unknown) s) ≤ size_of n (λ i. leb (get_or stamps i unknown) s) =
    size_beyond n 16 (λ i. leb (get_or stamps i unknown) s) are.few
    (λ i from inside low. omega (arith, leb-true (get_or stamps i unknown) s low, are.others i from inside, small)) in
    omega (arith, upto_places n s stamps are, shorter, size_within n (λ i. leb (get_or stamps i unknown) s) set each)

pub key_upper : (n k s : ℕ) (faulty : ℕ → Bool) (stamp : ℕ → ℕ) (stamps : List ℕ) → AreStamps n stamps → AllKnown n (honest faulty) stamp stamps
    → 0 < k → k ≤ count_below n (honest faulty) stamp s → key_of k stamps ≤ s
key_upper n k s faulty stamp stamps are known some enough =
    key_upto k s stamps some (omega (arith, enough, at_least n s (honest faulty) stamp stamps are known))

low_member : (s x y : ℕ) (f : Bool) → s < unknown → leb x s ≡ true → (f ≡ false → (x ≡ unknown) ⊎ (x ≡ y)) → ((not f && leb y s) || f) ≡ true
low_member s x y true small low true_if = refl
low_member s x y false small low true_if =
    elim (true_if refl) [
      | inl none ↦ absurd (omega (arith, leb-true x s low, none, small))
      | inr same ↦ let is : leb y s ≡ true = le-leb y s (omega (arith, leb-true x s low, same)) in rw is refl
    ]

pub key_lower : (n k s : ℕ) (faulty : ℕ → Bool) (stamp : ℕ → ℕ) (stamps : List ℕ) → AreStamps n stamps → AllTrue n (honest faulty) stamp stamps
    → s < unknown → key_of k stamps ≤ s → k ≤ count_below n (honest faulty) stamp s + size_of n faulty
key_lower n k s faulty stamp stamps are true_stamps small within =
    let few = at_most n s stamps (λ i. (not (faulty i) && leb (stamp i) s) || faulty i) are small
    (λ i below low. low_member s (get_or stamps i unknown) (stamp i) (faulty i) small low (λ good. true_stamps i below (not_from_false (faulty i) good))) in
    omega (arith, upto_key k s stamps small within, few, size_or n (λ i. not (faulty i) && leb (stamp i) s) faulty)

-- ---- two transactions

module _ (s : Parameters) (faulty late : ℕ → Bool) (first second : ℕ → ℕ) (one other : List ℕ) (valid : IsValid s) (are_one : AreStamps s.n one)
    (are_other : AreStamps s.n other)
    (few : size_of s.n faulty ≤ s.f) (stamped : AreStamped s faulty late first second one other) where
  the_middle : (at : ℕ) × IsMiddle s.n s.f (honest faulty) first at
  the_middle = middle s.n s.f (honest faulty) first (omega (arith, size_not s.n faulty, few, few_faulty s valid))

  -- what is past all but f stamps is above the middle
  past_middle : (at x : ℕ) → IsMiddle s.n s.f (honest faulty) first at → IsPast s faulty first x → at < x
  past_middle at x mid past =
      elim (cases_lt at x) [
        | inl above ↦ above
        | inr within ↦ absurd (omega (
          arith,
          past,
          mid.upper,
          size_within s.n (λ r. honest faulty r && leb at (first r)) (λ r. honest faulty r && leb x (first r))
              (λ r below is. let parts = and_parts (honest faulty r) (leb at (first r)) is in
              and_from (honest faulty r) (leb x (first r)) parts.0 (le-leb x (first r) (omega (arith, within, leb-true at (first r) parts.1)))),
        ))
      ]

  middle_below : (at : ℕ) → IsMiddle s.n s.f (honest faulty) first at → at < unknown
  middle_below at mid =
      let some = member s.n (λ i. honest faulty i && leb at (first i)) (omega (arith, mid.upper)) in
      let parts = and_parts (honest faulty some.0) (leb at (first some.0)) some.2 in
      omega (arith, leb-true at (first some.0) parts.1, stamped.below some.0 some.1 (not-true (faulty some.0) parts.0))

  -- few stamps of the other are at most the middle
  few_other : (at : ℕ) → IsMiddle s.n s.f (honest faulty) first at → count_upto at other ≤ size_of s.n (λ i. faulty i || late i)
  few_other at mid =
      at_most s.n at other (λ i. faulty i || late i) are_other (middle_below at mid)
      (λ i below low. elim (cases_Bool (faulty i || late i)) [
        | inl bad ↦ bad
        | inr good ↦ absurd (good_above i below good low)
      ])
    where
      good_above : (i : ℕ) → i < s.n → (faulty i || late i) ≡ false → leb (get_or other i unknown) at ≡ true → ⊥
      good_above i below good low =
          let upto : get_or other i unknown ≤ at = leb-true (get_or other i unknown) at low in
          elim (stamped.other_true i below (not_from_false (faulty i || late i) good)) [
            | inl none ↦ omega (arith, upto, none, middle_below at mid)
            | inr same ↦ omega (arith, upto, same, past_middle at (second i) mid (stamped.past i below good))
          ]

  key_one : (at : ℕ) → IsMiddle s.n s.f (honest faulty) first at → key_of (k_of s.n) one ≤ at
  key_one at mid =
      key_upper s.n (k_of s.n) at faulty first one are_one stamped.one_known (omega (arith, valid.replicas.some))
      (omega (arith, mid.lower, size_not s.n faulty, few, few_faulty s valid))

  pub keys_in_order : size_of s.n late ≤ s.f → key_of (k_of s.n) one < key_of (k_of s.n) other
  keys_in_order few_late =
      let mid = the_middle in
      let above = key_above (k_of s.n) mid.0 other (middle_below mid.0 mid.1)
      (omega (arith, few_other mid.0 mid.1, size_or s.n faulty late, few, few_late, few_faulty s valid)) in
      omega (arith, above, key_one mid.0 mid.1)

  pub low_above : size_of s.n (λ i. faulty i || late i) ≤ s.f → key_of (k_of s.n) one < low_of s.f other
  low_above few_bad =
      let mid = the_middle in
      let above = key_above (s.f + 1) mid.0 other (middle_below mid.0 mid.1) (omega (arith, few_other mid.0 mid.1, few_bad)) in
      omega (arith, above, key_one mid.0 mid.1)

pub faulty_are_few : (s : Parameters) (faulty late : ℕ → Bool) → size_of s.n (λ i. faulty i || late i) ≤ s.f → size_of s.n faulty ≤ s.f
faulty_are_few s faulty late few = omega (arith, few, size_within s.n faulty (λ r. faulty r || late r) (λ r below is. or_left (faulty r) (late r) is))
