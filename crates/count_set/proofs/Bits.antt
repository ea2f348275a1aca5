-- Bits of words, and lists of members.
use Rattle.std.proofs.Common.{◌≡◌, ℕ, zero, suc, ◌+◌, ◌*◌, ◌%◌, ◌^◌, ◌<◌, ◌≤◌, List, [], ◌∷◌, ◌++◌, length, filter, Bool, true, false, cond, ◌&&◌, ◌||◌, eqb, ltb, refl, sym, ap, ◌∙◌, inl, inr, arith, rules, w32, length-append, append-nil}
use lib.Count.{ones_step}
use Rattle.std.specs.Int.RustNames.{count_ones}
use Rattle.std.specs.Prelude.{All, bit_and, bit_or}
use Rattle.std.proofs.Math.Seq.{get_or-append_seam}
use Rattle.std.proofs.lemmas.List.{get_or_append_left}
use Rattle.std.specs.List.Sorted.{IsStrictlyIncreasing}
use Rattle.std.proofs.lemmas.Bool.{cases_Bool, cases_lt, cases_eq, ne_eqb, eq-eqb, lt-ltb, le-ltb}
use Rattle.std.proofs.Math.Nat.{mod-one, mod-eq_of_lt, mod-lt}
use Rattle.std.proofs.Math.Bool.{or-false}
use Rattle.std.proofs.lemmas.Nat.{pow_pos, ones_cat}
use Rattle.std.proofs.lemmas.Nat.Bits.{bit_at_and, bit_at_set_same, bit_at_set_other}
use Rattle.std.proofs.lemmas.List.Elements.{All-nil, All-cons, All-head, All-tail, All-append, All-weaker, filter-append}
use Rattle.count_set.specs.Bits.{has_bit, members_below, members_of, bit_when, bit_unless, low_bits}
use Rattle.count_set.specs.Sets.{is_among, with_replica}

is_among-append : (xs ys : List ℕ) (r : ℕ) → is_among (xs ++ ys) r ≡ (is_among xs r || is_among ys r)
is_among-append [] ys r = refl
is_among-append (x ∷ xs) ys r = rw (is_among-append xs ys r) (search rules)

is_among-members_below : (word k r : ℕ) → is_among (members_below word k) r ≡ (ltb r k && has_bit word r)
is_among-members_below word zero r = rw (le-ltb r 0 (omega arith)) refl
is_among-members_below word (suc k) r =
    rw (is_among-append (members_below word k) (cond (has_bit word k) (k ∷ []) []) r, is_among-members_below word k r)
    (elim (cases_eq r k) [
      | inl last ↦ elim (cases_Bool (has_bit word k)) [
        | inl one ↦ rw (last, one, le-ltb k k (omega arith), lt-ltb k (suc k) (omega arith), eq-eqb k k refl) refl
        | inr none ↦ rw (last, none, le-ltb k k (omega arith), lt-ltb k (suc k) (omega arith)) refl
      ]
      | inr other ↦
          let apart : is_among (cond (has_bit word k) (k ∷ []) []) r ≡ false = elim (cases_Bool (has_bit word k)) [
            | inl one ↦ rw (one, ne_eqb k r (λ same. other (sym same))) refl
            | inr none ↦ rw none refl
          ] in
          let same : ltb r (suc k) ≡ ltb r k = elim (cases_lt r k) [
            | inl less ↦ rw (lt-ltb r k less, lt-ltb r (suc k) (omega arith)) refl
            | inr more ↦ rw (le-ltb r k more, le-ltb r (suc k) (omega arith)) refl
          ] in
          rw (apart, same) (or-false _)
    ])

pub is_among-members_of : (word r : ℕ) → r < 32 → is_among (members_of word) r ≡ has_bit word r
unfolding members_of
is_among-members_of word r small = rw (is_among-members_below word 32 r, lt-ltb r 32 small) refl

none_set : count_ones 0 ≡ 0
unfolding count_ones
none_set = refl

one_set : count_ones 1 ≡ 1
one_set = rw (ones_step 1) (omega (arith, none_set))

pub is_among-members_of_above : (word r : ℕ) → 32 ≤ r → is_among (members_of word) r ≡ false
unfolding members_of
is_among-members_of_above word r large = rw (is_among-members_below word 32 r, le-ltb r 32 large) refl

length-members_below : (word k : ℕ) → length (members_below word k) ≡ count_ones (word % 2 ^ k)
length-members_below word zero = rw (mod-one word) (sym none_set)
length-members_below word (suc k) =
    let parts : (bit : ℕ) → count_ones (bit * 2 ^ k + word % 2 ^ k) ≡ count_ones bit + count_ones (word % 2 ^ k) =
    λ bit. ones_cat k bit (word % 2 ^ k) (mod-lt word (pow_pos k)) in
    let rest = length-members_below word k in
    elim (cases_Bool (has_bit word k)) [
      | inl one ↦ rw (one, low_bits word k, bit_when word k one, parts 1, one_set) (simp length-append (omega (arith, rest)))
      | inr none ↦ rw (none, low_bits word k, bit_unless word k none, parts 0, none_set) (simp length-append (omega (arith, rest)))
    ]

-- all are below a number
below-members_below : (word k : ℕ) → All (λ r. r < k) (members_below word k)
below-members_below word zero = All-nil (λ (r : ℕ). r < 0)
below-members_below word (suc k) =
    let before : All (λ r. r < suc k) (members_below word k) =
    All-weaker (λ (r : ℕ). r < k) (λ r. r < suc k) (λ r less. omega arith) _ (below-members_below word k) in
    elim (cases_Bool (has_bit word k)) [
      | inl one ↦ rw one (All-append (λ (r : ℕ). r < suc k) _ _ before (All-cons (λ (r : ℕ). r < suc k) k [] (omega arith) (All-nil (λ (r : ℕ). r < suc k))))
      | inr none ↦ rw none (All-append (λ (r : ℕ). r < suc k) _ _ before (All-nil (λ (r : ℕ). r < suc k)))
    ]

-- a greater number appended
ascending-push : (xs : List ℕ) (x : ℕ) → IsStrictlyIncreasing xs → All (λ r. r < x) xs → IsStrictlyIncreasing (xs ++ x ∷ [])
ascending-push xs x ascending below k inside =
    elim (cases_lt (k + 1) (length xs)) [
      | inl before ↦ rw (get_or_append_left xs (x ∷ []) 0 k (omega arith), get_or_append_left xs (x ∷ []) 0 (k + 1) before) (ascending k before)
      | inr last ↦
          let ends : length xs ≡ k + 1 = omega (arith, inside, length-append xs (x ∷ [])) in
          rw (get_or_append_left xs (x ∷ []) 0 k (omega arith), ← ends, get_or-append_seam xs x [] 0) (below k 0 (omega arith))
    ]

ascending-members_below : (word k : ℕ) → IsStrictlyIncreasing (members_below word k)
ascending-members_below word zero = search rules
ascending-members_below word (suc k) =
    elim (cases_Bool (has_bit word k)) [
      | inl one ↦ rw one (ascending-push (members_below word k) k (ascending-members_below word k) (below-members_below word k))
      | inr none ↦ rw (none, append-nil (members_below word k)) (ascending-members_below word k)
    ]

has_bit-and : (a b r : ℕ) → has_bit (bit_and a b) r ≡ (has_bit a r && has_bit b r)
has_bit-and a b r =
    rw (bit_at_and a b r)
    (elim (cases_Bool (has_bit a r)) [
      | inl one ↦ elim (cases_Bool (has_bit b r)) [
        | inl too ↦ rw (one, too, bit_when a r one, bit_when b r too) refl
        | inr none ↦ rw (one, none, bit_when a r one, bit_unless b r none) refl
      ]
      | inr none ↦ rw (none, bit_unless a r none) (ne_eqb _ 1 (λ one. omega arith))
    ])

filter-members_below : (word other k : ℕ) (p : ℕ → Bool) → ((r : ℕ) → r < k → p r ≡ has_bit other r)
    → filter p (members_below word k) ≡ members_below (bit_and word other) k
filter-members_below word other zero p same = refl
filter-members_below word other (suc k) p same =
    rw (
      filter-append p (members_below word k) (cond (has_bit word k) (k ∷ []) []),
      filter-members_below word other k p (λ r less. same r (omega arith)),
      has_bit-and word other k,
    )
    (elim (cases_Bool (has_bit word k)) [
      | inl one ↦ rw (one, same k (omega arith)) refl
      | inr none ↦ rw none refl
    ])

-- words with the same bits have the same members
same-members_below : (word other k : ℕ) → ((r : ℕ) → r < k → has_bit word r ≡ has_bit other r) → members_below word k ≡ members_below other k
same-members_below word other zero same = refl
same-members_below word other (suc k) same =
    rw (same k (omega arith), same-members_below word other k (λ r less. same r (omega arith))) refl

-- a number above all is inserted at the end
with_replica-above : (r : ℕ) (xs ys : List ℕ) → All (λ x. x < r) xs → with_replica r (xs ++ ys) ≡ xs ++ with_replica r ys
with_replica-above r [] ys above = refl
with_replica-above r (x ∷ xs) ys above =
    let less : x < r = All-head (λ (x : ℕ). x < r) x xs above in
    rw (le-ltb r x (omega arith), ne_eqb r x (λ same. omega arith), with_replica-above r xs ys (All-tail (λ (x : ℕ). x < r) x xs above)) refl

-- a number below the last is inserted before it
with_replica-below : (r k : ℕ) (xs : List ℕ) → r < k → with_replica r (xs ++ k ∷ []) ≡ with_replica r xs ++ k ∷ []
with_replica-below r k [] less = rw (lt-ltb r k less) refl
with_replica-below r k (x ∷ xs) less =
    elim (cases_lt r x) [
      | inl before ↦ rw (lt-ltb r x before) refl
      | inr following ↦ elim (cases_eq r x) [
        | inl here ↦ rw (le-ltb r x following, eq-eqb r x here) refl
        | inr other ↦ rw (le-ltb r x following, ne_eqb r x other, with_replica-below r k xs less) refl
      ]
    ]

with_replica-members_below : (word other r k : ℕ) → r < k → has_bit other r ≡ true
    → ((q : ℕ) → (q ≡ r → ⊥) → has_bit other q ≡ has_bit word q) → members_below other k ≡ with_replica r (members_below word k)
with_replica-members_below word other r zero less here others = absurd (omega arith)
with_replica-members_below word other r (suc k) less here others =
    elim (cases_eq r k) [
      | inl last ↦
          let before : members_below other k ≡ members_below word k = same-members_below other word k (λ q below. others q (λ same. omega arith)) in
          let there : has_bit other k ≡ true = rw (← last) here in
          let above : All (λ x. x < r) (members_below word k) = rw last (below-members_below word k) in
          rw (before, there, with_replica-above r (members_below word k) (cond (has_bit word k) (k ∷ []) []) above)
          (elim (cases_Bool (has_bit word k)) [
            | inl one ↦ rw (one, last, le-ltb k k (omega arith), eq-eqb k k refl) refl
            | inr none ↦ rw (none, last) refl
          ])
      | inr other_one ↦
          let rest = with_replica-members_below word other r k (omega arith) here others in
          rw (others k (λ same. other_one (sym same)), rest)
          (elim (cases_Bool (has_bit word k)) [
            | inl one ↦ rw one (sym (with_replica-below r k (members_below word k) (omega arith)))
            | inr none ↦ rw (none, append-nil (members_below word k), append-nil (with_replica r (members_below word k))) refl
          ])
    ]

-- the results of the calls, for whole words

pub length-members_of : (word : ℕ) → word < 2 ^ 32 → length (members_of word) ≡ count_ones word
unfolding members_of
length-members_of word small = length-members_below word 32 ∙ ap (λ (n : ℕ). count_ones n) (mod-eq_of_lt small)

pub ascending-members_of : (word : ℕ) → IsStrictlyIncreasing (members_of word)
unfolding members_of
ascending-members_of word = ascending-members_below word 32

pub below-members_of : (word : ℕ) → All (λ r. r < 32) (members_of word)
unfolding members_of
below-members_of word = below-members_below word 32

pub none-members_of : members_of 0 ≡ []
unfolding members_of
none-members_of = refl

pub filter-members_of : (word other : ℕ) → filter (is_among (members_of other)) (members_of word) ≡ members_of (bit_and word other)
unfolding members_of
filter-members_of word other = filter-members_below word other 32 _ (λ r small. is_among-members_of other r small)

pub with_replica-members_of : (word r : ℕ) → r < 32 → members_of (bit_or word (1 * 2 ^ r % 2 ^ 32)) ≡ with_replica r (members_of word)
unfolding members_of
with_replica-members_of word r small =
    with_replica-members_below word _ r 32 small (eq-eqb _ 1 (bit_at_set_same w32 word r small))
    (λ q other. ap (λ (n : ℕ). eqb n 1) (bit_at_set_other w32 word r small q other))
