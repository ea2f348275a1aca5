-- No number of a component is left out.
use Rattle.std.proofs.Common.{◌+◌, ℕ, suc, zero, ◌≡◌, ◌<◌, ◌≤◌, length, get_or, Bool, true, false, sym, ap, ◌∙◌, inl, inr, arith}
use Rattle.std.specs.Prelude.{count_by, ◌&&◌, ◌==◌, nat_lt}
use Rattle.std.specs.List.{range_with_len}
use Rattle.std.proofs.lemmas.Bool.{cases_order, cases_lt, and_parts, and_from, eqb-true, ltb-true, lt-ltb, false≢true}
use Rattle.std.proofs.lemmas.List.FromFn.{length-range_with_len}
use Rattle.majority_graph.specs.Graph.{Graph, IsGraph}
use Rattle.batch_laws.specs.Batches.{IsLine}
use Rattle.batch_laws.specs.Reached.{ReportWalks, reached_from, head_of, stands_before, number_by_reach, heads_in}
use Rattle.batch_laws.proofs.Tallies.{count_within_at, few_below, some_or_none}
use Rattle.batch_laws.proofs.ReachOrder.{at, same_head, one_number, before_is_lower, numbers_by_reach, below_heads}

module _ (g : Graph) (graph : IsGraph g) (reaches : ℕ → ℕ → Bool) (report : ReportWalks g reaches) where
  abbrev size : ℕ
  size = length g.vertices

  abbrev number : ℕ → ℕ
  number u = number_by_reach reaches size u

  abbrev is_head : ℕ → Bool
  is_head w = head_of reaches size w == w

  there : (k : ℕ) → k < length (range_with_len 0 size) → (k < size) × (get_or (range_with_len 0 size) k 0 ≡ k)
  there k inside =
      let short : k < size = omega (arith, length-range_with_len 0 size) in
      (short, at g graph reaches report k short)

  -- two heads have different numbers
  heads_apart : (i j : ℕ) → i < j → j < length (range_with_len 0 size) → is_head (get_or (range_with_len 0 size) i 0) ≡ true
      → is_head (get_or (range_with_len 0 size) j 0) ≡ true
      → number (get_or (range_with_len 0 size) i 0) ≡ number (get_or (range_with_len 0 size) j 0) → ⊥
  heads_apart i j below inside one other same =
      let a = there i (omega arith) in
      let b = there j inside in
      let left : head_of reaches size i ≡ i = eqb-true (head_of reaches size i) i (ap is_head (sym a.1) ∙ one) in
      let right : head_of reaches size j ≡ j = eqb-true (head_of reaches size j) j (ap is_head (sym b.1) ∙ other) in
      let number_same : number i ≡ number j = ap number (sym a.1) ∙ same ∙ ap number b.1 in
      let heads : head_of reaches size i ≡ head_of reaches size j =
      same_head g graph reaches report i j a.0 b.0 (one_number g graph reaches report i j a.0 b.0 number_same) in
      absurd (omega arith)

  low_heads : (c : ℕ) → count_by (λ w. is_head w && nat_lt (number w) c) (range_with_len 0 size) ≤ c
  low_heads c = few_below number is_head (range_with_len 0 size) heads_apart c

  abbrev counted_for : ℕ → ℕ → Bool
  counted_for u w = (head_of reaches size w == w)
      && stands_before (reached_from reaches size w) (head_of reaches size w) (reached_from reaches size u) (head_of reaches size u)

  -- where no number of a passing one is c or more, at most c pass
  all_low : (c : ℕ) (p : ℕ → Bool) → ((w : ℕ) → p w ≡ true → is_head w ≡ true)
      → ((i : ℕ) → i < length (range_with_len 0 size)
      → (p (get_or (range_with_len 0 size) i 0) && nat_lt c (suc (number (get_or (range_with_len 0 size) i 0)))) ≡ false)
      → count_by p (range_with_len 0 size) ≤ c
  all_low c p heads none =
      let most = low_heads c in
      let within : count_by p (range_with_len 0 size) ≤ count_by (λ w. is_head w && nat_lt (number w) c) (range_with_len 0 size) =
      count_within_at p (λ w. is_head w && nat_lt (number w) c) (range_with_len 0 size) 0
      (λ i inside is.
      and_from (is_head (get_or (range_with_len 0 size) i 0)) (nat_lt (number (get_or (range_with_len 0 size) i 0)) c)
      (heads (get_or (range_with_len 0 size) i 0) is)
      (low (get_or (range_with_len 0 size) i 0) is (none i inside))) in
      omega arith
    where
      low : (w : ℕ) → p w ≡ true → (p w && nat_lt c (suc (number w))) ≡ false → nat_lt (number w) c ≡ true
      low w is isnt =
          elim (cases_lt (number w) c) [
            | inl less ↦ lt-ltb (number w) c less
            | inr high ↦ absurd (false≢true (sym isnt ∙ and_from (p w) (nat_lt c (suc (number w))) is (lt-ltb c (suc (number w)) (omega arith))))
          ]

  descend : (c n h : ℕ) → h < size → c ≤ number h → number h ≤ c + n → (u : ℕ) × (u < size) × (number u ≡ c)
  descend c zero h inside high low = (h, inside, omega arith)
  descend c (suc n) h inside high low =
      elim (cases_order (number h) c) [
        | inl same ↦ (h, inside, same)
        | inr (inl less) ↦ absurd (omega arith)
        | inr (inr more) ↦ elim (some_or_none (λ w. counted_for h w && nat_lt c (suc (number w))) (range_with_len 0 size)) [
          | inl found ↦
              let place = there found.0 found.1 in
              let is : (counted_for h found.0 && nat_lt c (suc (number found.0))) ≡ true =
              ap (λ (w : ℕ). counted_for h w && nat_lt c (suc (number w))) (sym place.1) ∙ found.2 in
              let parts = and_parts (counted_for h found.0) (nat_lt c (suc (number found.0))) is in
              let counts = and_parts (is_head found.0) (stands_before (reached_from reaches size found.0) (head_of reaches size found.0)
              (reached_from reaches size h) (head_of reaches size h)) parts.0 in
              let lower : number found.0 < number h = before_is_lower g graph reaches report found.0 h place.0 counts.1 in
              let from : c < suc (number found.0) = ltb-true c (suc (number found.0)) parts.1 in
              descend c n found.0 place.0 (omega arith) (omega arith)
          | inr none ↦
              let most : number h ≤ c =
              all_low c (counted_for h)
              (λ w is. (and_parts (is_head w)
              (stands_before (reached_from reaches size w) (head_of reaches size w) (reached_from reaches size h) (head_of reaches size h)) is).0)
              none in
              absurd (omega arith)
        ]
      ]

  pub each_used : (c : ℕ) → c < heads_in reaches size → (u : ℕ) × (u < size) × (number u ≡ c)
  each_used c below =
      elim (some_or_none (λ w. is_head w && nat_lt c (suc (number w))) (range_with_len 0 size)) [
        | inl found ↦
            let place = there found.0 found.1 in
            let is : (is_head found.0 && nat_lt c (suc (number found.0))) ≡ true =
            ap (λ (w : ℕ). is_head w && nat_lt c (suc (number w))) (sym place.1) ∙ found.2 in
            let from : c < suc (number found.0) = ltb-true c (suc (number found.0)) (and_parts (is_head found.0) (nat_lt c (suc (number found.0))) is).1 in
            descend c (number found.0) found.0 place.0 (omega arith) (omega arith)
        | inr none ↦
            let most : heads_in reaches size ≤ c = all_low c is_head (λ w is. is) none in
            absurd (omega arith)
      ]

  pub line_by_reach : IsLine g (number_by_reach reaches size) (heads_in reaches size)
  line_by_reach = record {
    numbering = numbers_by_reach g graph reaches report;
    below = below_heads g graph reaches report;
    used = each_used;
  }
