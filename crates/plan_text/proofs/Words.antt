-- The words of lines: numbers and transactions.
use Rattle.std.proofs.Common.{◌≡◌, ◌≢◌, ℕ, ◌<◌, ◌≤◌, ◌^◌, true, List, [], ◌∷◌, ◌++◌, Option, Some, None, IfSome, refl, arith}
use Rattle.std.specs.List.{AllByRecursion, slice_split}
use Rattle.std.specs.Borrow.{Bor}
use Rattle.std.specs.Fmt.{decimal}
use Rattle.std.specs.Str.Parse.{AllDigits, digits_value}
use Rattle.std.specs.Prelude.{◌==◌, is_some}
use Rattle.std.proofs.lemmas.Bool.{and_parts, lt-ltb, ltb-true}
use Rattle.std.proofs.lemmas.Option.{cond_some}
use Rattle.std.proofs.lemmas.Fmt.{decimal_is_IsNumeral}
use Rattle.std.proofs.lemmas.Slice.Eq.{bytes_eq-Decides}
use Rattle.std.proofs.lemmas.Str.Parse.{digit_from_value}
use Rattle.seq_base.specs.declared.tx.Tx.{Tx}
use Rattle.seq_base.specs.Tx.{tx_text, FitsTx}
use Rattle.plan_text.specs.OrderReading.{number_of_text, parameters_in, words_in}
use Rattle.plan_text.proofs.Cuts.{Lacks, first_part}

-- the bytes of words are above those of spaces and line feeds
abbrev pub IsWord : List ℕ → Type 0
IsWord text = AllByRecursion (λ b. 33 ≤ b) text

pub word_lacks : (byte : ℕ) (text : List ℕ) → byte < 33 → IsWord text → Lacks byte text
word_lacks byte [] low word = tt
word_lacks byte (b ∷ bs) low word = ((λ same. absurd (omega (arith, word.0, same))), word_lacks byte bs low word.1)

word-append : (xs ys : List ℕ) → IsWord xs → IsWord ys → IsWord (xs ++ ys)
word-append [] ys a b = b
word-append (x ∷ xs) ys a b = (a.0, word-append xs ys a.1 b)

digits_are_words : (ds : List ℕ) → AllDigits 10 ds → IsWord ds
digits_are_words [] all = tt
digits_are_words (d ∷ ds) all = (omega (arith, digit_from_value d all.0), digits_are_words ds all.1)

pub decimals_are_words : (n : ℕ) → n < 2 ^ 64 → IsWord (decimal n)
decimals_are_words n small = digits_are_words (decimal n) (decimal_is_IsNumeral n small).0.1

pub txs_are_words : (t : Tx) → FitsTx t → IsWord (tx_text t)
txs_are_words t fits =
    word-append (decimal t.client ++ 46 ∷ decimal t.number) (46 ∷ decimal t.payload)
    (word-append (decimal t.client) (46 ∷ decimal t.number) (decimals_are_words t.client (omega (arith, fits.client)))
    (lit≤46, decimals_are_words t.number (omega (arith, fits.number))))
    (lit≤46, decimals_are_words t.payload fits.payload)
  where
    lit≤46 : 33 ≤ 46
    lit≤46 = omega arith

-- a number of 32 bits is read from its text, and what is read has that text
pub number_of_text-decimal : (n : ℕ) → n < 2 ^ 32 → number_of_text (decimal n) ≡ Some n
unfolding number_of_text
number_of_text-decimal n small =
    let value : digits_value 10 (decimal n) ≡ n = (decimal_is_IsNumeral n (omega (arith, small))).1 in
    rw (value, lt-ltb n (2 ^ 32) small, (bytes_eq-Decides (decimal n) (decimal n)).1 refl) refl

pub decimal_of_number : (text : List ℕ) (n : ℕ) → number_of_text text ≡ Some n → (text ≡ decimal n) × (n < 2 ^ 32)
unfolding number_of_text
decimal_of_number text n found =
    let (test, value) = cond_some _ _ _ found in
    let (small, same) = and_parts _ _ test in
    rw (← value) ((bytes_eq-Decides text (decimal (digits_value 10 text))).0 same, ltb-true _ _ small)

-- so a reader that returns a number of the text, or None where there is none, returns this one
pub number_of_text-some : (text : List ℕ) (n : ℕ) → n < 2 ^ 32 → text ≡ decimal n → number_of_text text ≡ Some n
number_of_text-some text n small is = rw is (number_of_text-decimal n small)

pub number_of_text-none : (text : List ℕ) → ((n : ℕ) → n < 2 ^ 32 → text ≢ decimal n) → number_of_text text ≡ None
number_of_text-none text none = without (number_of_text text) (λ n found. let (is, small) = decimal_of_number text n found in none n small is)
  where
    without : (r : Option ℕ) → ((n : ℕ) → r ≡ Some n → ⊥) → r ≡ None
    without None none = refl
    without (Some n) none = absurd (none n refl)

-- a sixth word is one too many
pub sixth_word : (word n f p q : List ℕ) (found : Option (Bor (List ℕ) × Bor (List ℕ))) → is_some found ≡ true
    → IfSome found (λ parts. slice_split (λ b. b == 32) q ≡ parts.0.now ∷ slice_split (λ b. b == 32) parts.1.now)
    → parameters_in (word ∷ n ∷ f ∷ p ∷ words_in q) ≡ None
sixth_word word n f p q None some is = absurd (cc)
sixth_word word n f p q (Some parts) some is =
    let (next, more, following) = first_part (λ (b : ℕ). b == 32) parts.1.now in
    rw (is, following) refl
