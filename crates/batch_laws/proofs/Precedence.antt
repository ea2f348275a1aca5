-- `stands_before` is an order.
use Rattle.std.proofs.Common.{ℕ, ◌≡◌, ◌<◌, true, false, inl, inr, arith}
use Rattle.std.specs.Prelude.{◌⊎◌, ◌&&◌, ◌==◌, nat_lt}
use Rattle.std.proofs.lemmas.Bool.{or_cases, or_left, or_right, or_from, and_parts, and_from, and_right, eqb-true, eq-eqb, ltb-true, lt-ltb, le-ltb}
use Rattle.batch_laws.specs.Reached.{stands_before}

pub before_itself : (n h : ℕ) → stands_before n h n h ≡ false
before_itself n h = or_from (nat_lt n n) ((n == n) && nat_lt h h) (le-ltb n n (omega arith)) (and_right (n == n) (nat_lt h h) (le-ltb h h (omega arith)))

before_shows : (n h m k : ℕ) → stands_before n h m k ≡ true → (m < n) ⊎ ((n ≡ m) × (h < k))
before_shows n h m k is =
    elim (or_cases (nat_lt m n) ((n == m) && nat_lt h k) is) [
      | inl more ↦ inl (ltb-true m n more)
      | inr tie ↦ (let parts = and_parts (n == m) (nat_lt h k) tie in inr (eqb-true n m parts.0, ltb-true h k parts.1))
    ]

pub before_by_more : (n h m k : ℕ) → m < n → stands_before n h m k ≡ true
before_by_more n h m k more = or_left (nat_lt m n) ((n == m) && nat_lt h k) (lt-ltb m n more)

pub before_by_head : (n h m k : ℕ) → n ≡ m → h < k → stands_before n h m k ≡ true
before_by_head n h m k same less = or_right (nat_lt m n) ((n == m) && nat_lt h k) (and_from (n == m) (nat_lt h k) (eq-eqb n m same) (lt-ltb h k less))

pub before_join : (n h m k l j : ℕ) → stands_before n h m k ≡ true → stands_before m k l j ≡ true → stands_before n h l j ≡ true
before_join n h m k l j one other =
    elim (before_shows n h m k one) [
      | inl more ↦ elim (before_shows m k l j other) [
        | inl again ↦ before_by_more n h l j (omega arith)
        | inr tie ↦ (let same : m ≡ l = tie.0 in before_by_more n h l j (omega arith))
      ]
      | inr tie ↦
          let same : n ≡ m = tie.0 in
          let less : h < k = tie.1 in
          elim (before_shows m k l j other) [
            | inl again ↦ before_by_more n h l j (omega arith)
            | inr next ↦ (let equal : m ≡ l = next.0 in let below : k < j = next.1 in before_by_head n h l j (omega arith) (omega arith))
          ]
    ]
