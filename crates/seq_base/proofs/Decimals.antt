-- What distinguishes the decimal text of a number from other texts of digits.
use Rattle.std.proofs.Common.{◌≡◌, ℕ, ◌+◌, ◌*◌, ◌<◌, ◌≤◌, ◌^◌, List, length, get_or, take, arith, sym, ap, ◌∙◌, inl, inr}
use Rattle.std.proofs.lemmas.Bool.{cases_order}
use Rattle.std.specs.Fmt.{decimal}
use Rattle.std.specs.Str.Parse.{AllDigits, digits_value}
use Rattle.std.proofs.lemmas.Fmt.{decimal-digits_value, decimal_is_IsNumeral, first_decimal, decimal_digit}
use Rattle.std.proofs.lemmas.Str.Parse.{IsNumeralModel, numerals_by_value, tells_digits, digits_value-take-le, digit_at}
use Rattle.std.proofs.lemmas.Str.{digit_value_digit}
use Rattle.std.proofs.lemmas.Int.Digits.{digits_value_more}
use Rattle.std.specs.Char.{digit_value}

numerals : IsNumeralModel (AllDigits 10) (digits_value 10)
numerals = numerals_by_value (AllDigits 10) tells_digits

-- only the number 0 has a text with `0` as its first byte, and it is that byte alone
pub leading_zero : (n : ℕ) → n < 2 ^ 64 → get_or (decimal n) 0 0 ≡ 48 → length (decimal n) ≡ 1
leading_zero n small first =
    elim (cases_order n 0) [
      | inl none ↦ ap (λ (m : ℕ). length (decimal m)) none ∙ ap length (decimal_digit 0 (omega arith))
      | inr (inl under) ↦ absurd (omega arith)
      | inr (inr some) ↦ absurd (omega (arith, first_decimal n some small))
    ]

pub decimal_of_digits : (text : List ℕ) (n : ℕ) → AllDigits 10 text → 0 < length text → (get_or text 0 0 ≡ 48 → length text ≡ 1)
    → n ≡ digits_value 10 text → n < 2 ^ 64 → text ≡ decimal n
decimal_of_digits text n digits some leading value small =
    let bound : digits_value 10 text < 2 ^ 64 = omega arith in
    sym (decimal-digits_value numerals text digits some leading bound) ∙ ap decimal (sym value)

pub digits_of_decimal : (text : List ℕ) (n : ℕ) → n < 2 ^ 64 → text ≡ decimal n → AllDigits 10 text × (digits_value 10 text < 2 ^ 64)
digits_of_decimal text n small e =
    let numeral = decimal_is_IsNumeral n small in
    rw e (numeral.0.1, (omega (arith, numeral.1)))

-- the number so far and the next digit are within the whole number
pub value_so_far : (text : List ℕ) (i : ℕ) → i < length text → digits_value 10 (take i text) * 10 + digit_value (get_or text i 0) ≤ digits_value 10 text
value_so_far text i within = omega (arith, digits_value_more 10 text i within, digits_value-take-le 10 text (i + 1) (omega arith))

pub digit_so_far : (text : List ℕ) (i : ℕ) → i < length text → AllDigits 10 text → digit_value (get_or text i 0) + 48 ≡ get_or text i 0
digit_so_far text i within digits = digit_value_digit (get_or text i 0) (digit_at text i digits within)
