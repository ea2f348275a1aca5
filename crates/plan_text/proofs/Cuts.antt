-- Splitting a text at a byte.
use Rattle.std.proofs.Common.{◌≡◌, ◌≢◌, ℕ, ◌+◌, ◌-◌, ◌<◌, ◌≤◌, ◌==◌, Bool, true, false, List, [], ◌∷◌, ◌++◌, length, get_or, take, drop, Some, None, refl, sym, ap, ◌∙◌, subst, arith, inl, inr}
use Rattle.std.specs.Prelude.{position, All, nat_lt}
use Rattle.std.specs.List.{AllByRecursion, slice_split, join_with_byte, position_or_len}
use Rattle.std.proofs.lemmas.Bool.{cases_Bool, lt-ltb, ltb-true, ltb-false}
use Rattle.std.proofs.lemmas.Bool.Decides.{nat_tests}
use Rattle.std.proofs.lemmas.List.{length-append, length-drop}
use Rattle.std.proofs.lemmas.List.Elements.{All-from_get_or, All-from_recursion}
use Rattle.std.proofs.lemmas.List.Sums.{split_at_first, fails_before_first, passes_at_first}
use Rattle.std.proofs.lemmas.List.Splits.{slice_split_none, slice_split_first, slice_split_at, length-slice_split, join_with_byte-slice_split}
use Rattle.std.proofs.Math.Seq.{take-append_seam, drop-append-add, take-length}
use Rattle.plan_text.specs.OrderReading.{cut_at}

-- no byte of the text is this one
abbrev pub Lacks : ℕ → List ℕ → Type 0
Lacks byte text = AllByRecursion (λ b. b ≢ byte) text

other : (b byte : ℕ) → b ≢ byte → (b == byte) ≡ false
other b byte differ = grind (arith, nat_tests)

all_other : (byte : ℕ) (text : List ℕ) → Lacks byte text → All (λ b. (b == byte) ≡ false) text
all_other byte text lacks = All-from_recursion (λ b. (b == byte) ≡ false) text (each text lacks)
  where
    each : (text : List ℕ) → Lacks byte text → AllByRecursion (λ b. (b == byte) ≡ false) text
    each [] lacks = tt
    each (b ∷ bs) lacks = (other b byte lacks.0, each bs lacks.1)

same : (byte : ℕ) → (byte == byte) ≡ true
same byte = grind (arith, nat_tests)

-- the place of the first such byte, if there is one
pub place_is : (p : ℕ → Bool) (text : List ℕ) (at : ℕ) → position p text ≡ Some at → (at < length text) × (position_or_len p text ≡ at)
place_is p text at found =
    elim (cases_Bool (nat_lt (position_or_len p text) (length text))) [
      | inl so ↦
          let is : position_or_len p text ≡ at = cc (rw so at found) in
          let below : position_or_len p text < length text = ltb-true _ _ so in
          (omega arith, is)
      | inr not_so ↦ let wrong = rw not_so at found in absurd (cc)
    ]

pub no_place : (p : ℕ → Bool) (text : List ℕ) → position p text ≡ None → All (λ b. p b ≡ false) text
no_place p text none =
    elim (cases_Bool (nat_lt (position_or_len p text) (length text))) [
      | inl so ↦ let wrong = rw so at none in absurd (cc)
      | inr not_so ↦
          let past : length text ≤ position_or_len p text = ltb-false _ _ not_so in
          All-from_get_or (λ b. p b ≡ false) text 0 (λ k below. fails_before_first p text k 0 (omega arith))
    ]

-- the parts of a text, by its first split
pub parts_none : (byte : ℕ) (text : List ℕ) → position (λ b. b == byte) text ≡ None → slice_split (λ b. b == byte) text ≡ text ∷ []
parts_none byte text none = slice_split_none (λ b. b == byte) text (no_place (λ b. b == byte) text none)

pub parts_some : (byte : ℕ) (text : List ℕ) (at : ℕ) → position (λ b. b == byte) text ≡ Some at
    → slice_split (λ b. b == byte) text ≡ take at text ∷ slice_split (λ b. b == byte) (drop (at + 1) text)
parts_some byte text at found =
    let (within, is) = place_is (λ b. b == byte) text at found in
    subst (λ (k : ℕ). slice_split (λ b. b == byte) text ≡ take k text ∷ slice_split (λ b. b == byte) (drop (k + 1) text)) is
    (slice_split_first (λ b. b == byte) text 0 (omega arith))

-- there is a part
pub first_part : (p : ℕ → Bool) (text : List ℕ) → (part : List ℕ) × (parts : List (List ℕ)) × (slice_split p text ≡ part ∷ parts)
first_part p text = first (slice_split p text) (omega (arith, length-slice_split p text))
  where
    first : (parts : List (List ℕ)) → 1 ≤ length parts → (part : List ℕ) × (rest : List (List ℕ)) × (parts ≡ part ∷ rest)
    first [] some = absurd (omega (arith, some))
    first (part ∷ rest) some = (part, rest, refl)

-- a text is split at the first such byte
place_at : (byte : ℕ) (prefix back : List ℕ) → Lacks byte prefix → position_or_len (λ b. b == byte) (prefix ++ byte ∷ back) ≡ length prefix
place_at byte [] back lacks = rw (same byte) refl
place_at byte (b ∷ bs) back lacks = rw (other b byte lacks.0, place_at byte bs back lacks.1) (omega arith)

pub cut_at-byte : (byte : ℕ) (prefix back : List ℕ) → Lacks byte prefix → cut_at byte (prefix ++ byte ∷ back) ≡ Some (prefix, back)
cut_at-byte byte prefix back lacks =
    let at : position_or_len (λ b. b == byte) (prefix ++ byte ∷ back) ≡ length prefix = place_at byte prefix back lacks in
    let below : nat_lt (length prefix) (length (prefix ++ byte ∷ back)) ≡ true = lt-ltb _ _ (omega (arith, length-append prefix (byte ∷ back))) in
    rw (at, below, take-append_seam prefix (byte ∷ back), drop-append-add prefix (byte ∷ back) 1) refl

-- and is the two parts with the byte between
pub cut_at-is : (byte : ℕ) (text : List ℕ) (found : List ℕ × List ℕ) → cut_at byte text ≡ Some found → text ≡ found.0 ++ byte ∷ found.1
cut_at-is byte text found is =
    elim (cases_Bool (nat_lt (position_or_len (λ b. b == byte) text) (length text))) [
      | inl so ↦
          let within : position_or_len (λ b. b == byte) text < length text = ltb-true _ _ so in
          let parts : (take (position_or_len (λ b. b == byte) text) text, drop (position_or_len (λ b. b == byte) text + 1) text) ≡ found = cc (rw so at is) in
          let here : get_or text (position_or_len (λ b. b == byte) text) 0 ≡ byte = equal _ byte (passes_at_first (λ b. b == byte) text 0 within) in
          subst (λ (x : List ℕ × List ℕ). text ≡ x.0 ++ byte ∷ x.1) parts (rw here at (split_at_first (λ b. b == byte) text 0 within))
      | inr not_so ↦ let wrong = rw not_so at is in absurd (cc)
    ]
  where
    equal : (b c : ℕ) → (b == c) ≡ true → b ≡ c
    equal b c same = grind (arith, nat_tests)

-- words without the byte, joined by it, are the parts
pub split-join : (byte : ℕ) (word : List ℕ) (words : List (List ℕ)) → Lacks byte word → AllByRecursion (Lacks byte) words
    → slice_split (λ b. b == byte) (join_with_byte byte (word ∷ words)) ≡ word ∷ words
split-join byte word [] lacks all = slice_split_none (λ b. b == byte) word (all_other byte word lacks)
split-join byte word (next ∷ words) lacks all =
    slice_split_at (λ b. b == byte) word byte (join_with_byte byte (next ∷ words)) (all_other byte word lacks) (same byte)
    ∙ ap (λ (rest : List (List ℕ)). word ∷ rest) (split-join byte next words all.0 all.1)

pub join-split : (byte : ℕ) (text : List ℕ) → join_with_byte byte (slice_split (λ b. b == byte) text) ≡ text
join-split byte text = join_with_byte-slice_split byte text

-- the bytes after a position, as a range gives them
pub back_is : (k : ℕ) (text : List ℕ) → take (length text - k) (drop k text) ≡ drop k text
back_is k text = ap (λ (n : ℕ). take n (drop k text)) (sym (length-drop k text)) ∙ take-length (drop k text)
