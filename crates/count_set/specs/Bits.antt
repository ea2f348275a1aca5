-- A set of numbers below 32 as a word: bit r is set where r is a member.
use Rattle.std.specs.Prelude.{◌≡◌, ℕ, zero, suc, ◌+◌, ◌*◌, ◌^◌, ◌%◌, ◌<◌, List, [], ◌∷◌, ◌++◌, Bool, true, false, ◌==◌, if◌then◌else◌, sum_by}
use Rattle.std.specs.Int.{bit_at}
use Rattle.std.proofs.Common.{arith, inl, inr, ◌∙◌, ap}
use Rattle.std.proofs.Math.Nat.{mod-one, mod-eq_of_lt}
use Rattle.std.proofs.lemmas.Bool.{cases_Bool, eqb-true, eqb-false}
use Rattle.std.proofs.lemmas.List.Sums.{sum_by-append}
use Rattle.std.proofs.lemmas.Nat.{mod-pow-add}
use Rattle.std.proofs.lemmas.Nat.Bits.{bit_at-lt}
use Rattle.count_set.specs.declared.replica_set.ReplicaSet.TheInside.{Inside}

abbrev pub has_bit : ℕ → ℕ → Bool
has_bit word r = bit_at word r == 1

-- the members below a number, ascending
abbrev pub members_below : ℕ → ℕ → List ℕ
members_below word zero = []
members_below word (suc k) = members_below word k ++ (if has_bit word k then k ∷ [] else [])

-- the members, ascending
unfoldable pub members_of : ℕ → List ℕ
members_of word = members_below word 32

-- the word of a list of members
abbrev pub word_of : List ℕ → ℕ
word_of members = sum_by (λ r. 2 ^ r) members

pub bit_when : (word r : ℕ) → has_bit word r ≡ true → bit_at word r ≡ 1
bit_when word r one = eqb-true _ _ one

pub bit_unless : (word r : ℕ) → has_bit word r ≡ false → bit_at word r ≡ 0
bit_unless word r none = let other = eqb-false (bit_at word r) 1 none in omega (arith, bit_at-lt word r, other)

-- bit k and the lower ones
pub low_bits : (word k : ℕ) → word % 2 ^ suc k ≡ bit_at word k * 2 ^ k + word % 2 ^ k
low_bits word k = let next : suc k ≡ 1 + k = omega arith in rw next (mod-pow-add word 1 k)

word_of-members_below : (word k : ℕ) → word_of (members_below word k) ≡ word % 2 ^ k
word_of-members_below word zero = omega (arith, mod-one word)
word_of-members_below word (suc k) =
    let rest = word_of-members_below word k in
    elim (cases_Bool (has_bit word k)) [
      | inl one ↦ rw one (simp sum_by-append (omega (arith, rw (bit_when word k one) at (low_bits word k))))
      | inr none ↦ rw none (simp sum_by-append (omega (arith, rw (bit_unless word k none) at (low_bits word k))))
    ]

pub word_of-members_of : (word : ℕ) → word < 2 ^ 32 → word_of (members_of word) ≡ word
unfolding members_of
word_of-members_of word small = word_of-members_below word 32 ∙ mod-eq_of_lt small

-- the set of a word
abbrev pub set_of_word : ℕ → Inside
set_of_word word = record { word = word }

pub set-members_of : (word : ℕ) → word < 2 ^ 32 → set_of_word (word_of (members_of word)) ≡ set_of_word word
set-members_of word small = ap set_of_word (word_of-members_of word small)
