-- Where a waits with a key of at most a number, and fewer than k, and at most f, stamps of b are at most that number:
-- what lets b in lets a in.
use Rattle.std.proofs.Common.{◌≡◌, ℕ, ◌+◌, ◌<◌, ◌≤◌, List, [], ◌∷◌, length, get_or, Bool, true, false, ◌&&◌, leb, ltb, refl, sym, ap, ◌∙◌, inl, inr, arith}
use Rattle.std.specs.Prelude.{Contains, Some}
use Rattle.std.specs.List.{list_any}
use Rattle.std.specs.Map.{lookup, keys_of}
use Rattle.std.specs.Ordering.{nat_cmp, ordering_then, is_le}
use Rattle.std.specs.declared.cmp.Ordering.{Ordering}
use Rattle.std.proofs.lemmas.Bool.{cases_Bool, cases_lt, and_parts, and_from, both_ways, leb-true, le-leb, lt-ltb, le-ltb, ne_eqb, or_cases, or_left}
use Rattle.seq_base.specs.declared.tx.Tx.{Tx}
use Rattle.seq_base.specs.Tx.{tx_eq, tx_eq_decides, tx_cmp}
use Rattle.seq_base.specs.Lists.{holds}
use Rattle.count_set.specs.Sets.{size_of}
use Rattle.intake.specs.declared.slot.Receipt.{Receipt}
use Rattle.intake.specs.declared.slot.Slot.{Slot}
use Rattle.intake.specs.declared.slot.Bound.{Bound}
use Rattle.intake.specs.declared.slot.Bound.TheVariants.{All, To}
use Rattle.intake.specs.Keys.{limit, unknown, key_of, low_of, count_upto}
use Rattle.intake.specs.Arriving.{keyed, keyed_cmp, is_known, is_within, is_low, comes}
use Rattle.intake_laws.specs.Middle.{IsMiddle}
use Rattle.intake_laws.proofs.Counting.{size_longer, size_beyond, count_as_size}
use Rattle.intake_laws.proofs.LeastStamps.{key_upto, upto_key, Contains-first, Contains-later}
use Rattle.intake_laws.proofs.Slots.{receipt_at, IsNoted}
use Rattle.chain_laws.proofs.Members.{size_within}

-- ---- the order of keys

upto_compared : (x y : ℕ) (o : Ordering) → is_le (ordering_then (nat_cmp x y) o) ≡ true → x ≤ y
upto_compared x y o upto =
    elim (cases_lt y x) [
      | inr within ↦ within
      | inl above ↦ absurd (both_ways (is_le (ordering_then (nat_cmp x y) o))
          (rw (le-ltb x y (omega arith), ne_eqb x y (λ (same : x ≡ y). omega arith)) refl) upto)
    ]

less_compared : (x y : ℕ) (o : Ordering) → x < y → is_le (ordering_then (nat_cmp x y) o) ≡ true
less_compared x y o less = rw (lt-ltb x y less) refl

within_less : (k key : ℕ) (tx : Tx) (e : Tx × Slot) → key_of k e.1.stamps < unknown → key_of k e.1.stamps < key → is_within k (To key tx) e ≡ true
within_less k key tx e known less =
    and_from (ltb (key_of k e.1.stamps) unknown) (is_le (keyed_cmp (keyed k e) (record { key = key; tx = tx })))
    (lt-ltb (key_of k e.1.stamps) unknown known) (less_compared (key_of k e.1.stamps) key (tx_cmp e.0 tx) less)

-- what lets in an entry with greater keys lets in this one
pub comes_too : (k f : ℕ) (bound : Bound) (extra : List Tx) (at : ℕ) (one other : Tx × Slot) → key_of k one.1.stamps ≤ at → at < key_of k other.1.stamps
    → at < low_of f other.1.stamps → at < unknown → comes k f bound extra other ≡ true → comes k f bound extra one ≡ true
comes_too k f All extra at one other low key least small let_in = refl
comes_too k f (To key tx) extra at one other low above least small let_in =
    or_left (is_within k (To key tx) one) (is_low f (To key tx) one && list_any (tx_eq one.0) extra)
    (elim (or_cases (is_within k (To key tx) other) (is_low f (To key tx) other && list_any (tx_eq other.0) extra) let_in) [
      | inl within ↦
          let parts = and_parts (is_known (keyed k other)) (is_le (keyed_cmp (keyed k other) (record { key = key; tx = tx }))) within in
          let upto : key_of k other.1.stamps ≤ key = upto_compared (key_of k other.1.stamps) key (tx_cmp other.0 tx) parts.1 in
          within_less k key tx one (omega (arith, low, small)) (omega (arith, low, above, upto))
      | inr extra' ↦
          let lows = and_parts (is_low f (To key tx) other) (list_any (tx_eq other.0) extra) extra' in
          let upto : low_of f other.1.stamps ≤ key = leb-true (low_of f other.1.stamps) key
          (and_parts (ltb (low_of f other.1.stamps) unknown) (leb (low_of f other.1.stamps) key) lows.0).1 in
          within_less k key tx one (omega (arith, low, small)) (omega (arith, low, least, upto))
    ])

-- ---- keys from counts

-- the key of what has the stamps of the honest
pub key_low : (n f k : ℕ) (set : ℕ → Bool) (stamp : ℕ → ℕ) (at : ℕ) (stamps : List ℕ) → n ≤ 16 → IsMiddle n f set stamp at → length stamps ≡ 16 → 0 < k
    → k + f ≤ size_of n set
    → ((i : ℕ) → i < n → set i ≡ true → get_or stamps i unknown ≡ stamp i) → key_of k stamps ≤ at
key_low n f k set stamp at stamps few middle many some enough same =
    let as_size : count_upto at stamps ≡ size_of (length stamps) (λ i. leb (get_or stamps i unknown) at) = count_as_size (λ x. leb x at) stamps unknown in
    let all : size_of (length stamps) (λ i. leb (get_or stamps i unknown) at) ≡ size_of 16 (λ i. leb (get_or stamps i unknown) at) =
    ap (λ (m : ℕ). size_of m (λ i. leb (get_or stamps i unknown) at)) many in
    let longer = size_longer n 16 (λ i. leb (get_or stamps i unknown) at) few in
    let within : size_of n (λ i. set i && leb (stamp i) at) ≤ size_of n (λ i. leb (get_or stamps i unknown) at) =
    size_within n (λ i. set i && leb (stamp i) at) (λ i. leb (get_or stamps i unknown) at)
    (λ i below member.
    let parts = and_parts (set i) (leb (stamp i) at) member in
    le-leb (get_or stamps i unknown) at (omega (arith, same i below parts.0, leb-true (stamp i) at parts.1))) in
    key_upto k at stamps some (omega (arith, middle.lower, as_size, all, longer, within, enough))

-- few stamps are low where the good ones are above
pub few_low : (n me : ℕ) (K : ℕ → Receipt → Type 0) (bad : ℕ → Bool) (at : ℕ) (e : Tx × Slot) → n ≤ 16 → at < limit → IsNoted n me K e
    → ((i : ℕ) (x : ℕ) → i < n → bad i ≡ false → K i (receipt_at e.0 x) → at < x) → count_upto at e.1.stamps ≤ size_of n bad
few_low n me K bad at e few small noted above =
    let as_size : count_upto at e.1.stamps ≡ size_of (length e.1.stamps) (λ i. leb (get_or e.1.stamps i unknown) at) = count_as_size
    (λ x. leb x at) e.1.stamps unknown in
    let all : size_of (length e.1.stamps) (λ i. leb (get_or e.1.stamps i unknown) at) ≡ size_of 16 (λ i. leb (get_or e.1.stamps i unknown) at) =
    ap (λ (m : ℕ). size_of m (λ i. leb (get_or e.1.stamps i unknown) at)) noted.many in
    let shorter : size_of 16 (λ i. leb (get_or e.1.stamps i unknown) at) ≤ size_of n (λ i. leb (get_or e.1.stamps i unknown) at) =
    size_beyond n 16 (λ i. leb (get_or e.1.stamps i unknown) at) few
    (λ i from inside low. let there = reported i inside low in omega (arith, there.0, from)) in
    let within : size_of n (λ i. leb (get_or e.1.stamps i unknown) at) ≤ size_of n bad =
    size_within n (λ i. leb (get_or e.1.stamps i unknown) at) bad
    (λ i below low. elim (cases_Bool (bad i)) [
      | inl is ↦ is
      | inr good ↦
          let there = reported i (omega (arith, below, few)) low in
          absurd (above_low i (above i (get_or e.1.stamps i unknown) below good there.1) low)
    ]) in
    omega (arith, as_size, all, shorter, within)
  where
    above_low : (i : ℕ) → at < get_or e.1.stamps i unknown → leb (get_or e.1.stamps i unknown) at ≡ true → ⊥
    above_low i more low = omega (arith, leb-true (get_or e.1.stamps i unknown) at low, more)

    reported : (i : ℕ) → i < 16 → leb (get_or e.1.stamps i unknown) at ≡ true → (i < n) × K i (receipt_at e.0 (get_or e.1.stamps i unknown))
    reported i inside low = noted.reported i inside (λ (none : get_or e.1.stamps i unknown ≡ unknown). omega
        (arith, leb-true (get_or e.1.stamps i unknown) at low, none, small))

pub key_above : (k at : ℕ) (stamps : List ℕ) → at < unknown → count_upto at stamps < k → at < key_of k stamps
key_above k at stamps small few =
    elim (cases_lt at (key_of k stamps)) [
      | inl above ↦ above
      | inr within ↦ absurd (omega (arith, upto_key k at stamps small within, few))
    ]

-- ---- entries of lists

pub holds_entry : (t : Tx) (es : List (Tx × Slot)) → holds t (keys_of es) ≡ true → (e : Tx × Slot) × Contains es e × (e.0 ≡ t)
holds_entry t [] some = absurd (both_ways false refl some)
holds_entry t (e ∷ es) some =
    elim (or_cases (tx_eq e.0 t) (holds t (keys_of es)) some) [
      | inl here ↦ (e, Contains-first e es, (tx_eq_decides e.0 t).0 here)
      | inr later ↦ let rest = holds_entry t es later in (rest.0, Contains-later e es rest.0 rest.1, rest.2)
    ]

pub lookup_entry : (t : Tx) (es : List (Tx × Slot)) (slot : Slot) → lookup (tx_eq t) es ≡ Some slot → Contains es (t, slot)
lookup_entry t [] slot found = absurd (cc)
lookup_entry t (e ∷ es) slot found =
    elim (cases_Bool (tx_eq t e.0)) [
      | inl here ↦
          let value : Some e.1 ≡ Some slot = rw here at found in
          let inside : e.1 ≡ slot = cc in
          let same : e.0 ≡ t = sym ((tx_eq_decides t e.0).0 here) in
          (0, (omega arith), ap (λ (x : Tx). pair x e.1) same ∙ ap (λ (x : Slot). pair t x) inside)
      | inr other ↦ let rest : lookup (tx_eq t) es ≡ Some slot = rw other at found in Contains-later e es (t, slot) (lookup_entry t es slot rest)
    ]
  where
    pair : Tx → Slot → Tx × Slot
    pair x s = (x, s)
