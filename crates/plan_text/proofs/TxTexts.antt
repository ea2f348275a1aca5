-- A text represents the transaction that is read from it, and no other.
use Rattle.std.proofs.Common.{◌≡◌, ◌≢◌, ℕ, ◌<◌, ◌^◌, ◌==◌, ◌&&◌, true, false, List, [], ◌∷◌, ◌++◌, Option, Some, None, IfSome, refl, arith, inl, inr}
use Rattle.std.specs.Fmt.{decimal}
use Rattle.std.specs.Str.{bytes_eq}
use Rattle.std.specs.Str.Parse.{digits_value}
use Rattle.std.proofs.lemmas.Bool.{cases_Bool, and_parts, ltb-true, lt-ltb}
use Rattle.std.proofs.lemmas.Bool.Decides.{nat_tests}
use Rattle.std.proofs.lemmas.Fmt.{decimal_is_IsNumeral}
use Rattle.std.proofs.lemmas.List.{append_assoc}
use Rattle.std.proofs.lemmas.Slice.Eq.{bytes_eq-Decides}
use Rattle.seq_base.specs.declared.tx.Tx.{Tx}
use Rattle.seq_base.specs.Dots.{HasNoDot}
use Rattle.seq_base.specs.Tx.{tx_text, FitsTx}
use Rattle.seq_base.proofs.Parts.{no_dot_in_decimal}
use Rattle.plan_text.specs.TxTexts.{before_dot, after_dot, numbers_in, fits_tx, tx_of_text}

no_dot : (x : ℕ) → x ≢ 46 → (x == 46) ≡ false
no_dot x other = grind (arith, nat_tests)

before : (xs ys : List ℕ) → HasNoDot xs → before_dot (xs ++ 46 ∷ ys) ≡ xs
before [] ys none = refl
before (x ∷ xs) ys none = rw (no_dot x none.0, before xs ys none.1)

following : (xs ys : List ℕ) → HasNoDot xs → after_dot (xs ++ 46 ∷ ys) ≡ ys
following [] ys none = refl
following (x ∷ xs) ys none = rw (no_dot x none.0, following xs ys none.1)

value_of_decimal : (n : ℕ) → n < 2 ^ 64 → digits_value 10 (decimal n) ≡ n
value_of_decimal n small = (decimal_is_IsNumeral n small).1

-- a transaction is its three numbers
parts_of_tx : (t : Tx) (client number payload : ℕ) → client ≡ t.client → number ≡ t.number → payload ≡ t.payload
    → record { client = client; number = number; payload = payload } ≡ t
parts_of_tx t client number payload a b c = rw (a, b, c)

-- the numbers in the text of a transaction are the transaction's
numbers_in-text : (t : Tx) → FitsTx t → numbers_in (tx_text t) ≡ t
unfolding numbers_in
numbers_in-text t fits =
    let client = no_dot_in_decimal t.client (omega (arith, fits.client)) in
    let number = no_dot_in_decimal t.number (omega (arith, fits.number)) in
    let rest = decimal t.number ++ (46 ∷ decimal t.payload) in
    let spelled : tx_text t ≡ decimal t.client ++ (46 ∷ rest) = append_assoc (decimal t.client) (46 ∷ decimal t.number) (46 ∷ decimal t.payload) in
    let first : before_dot (tx_text t) ≡ decimal t.client = rw spelled (before (decimal t.client) rest client) in
    let second : after_dot (tx_text t) ≡ rest = rw spelled (following (decimal t.client) rest client) in
    parts_of_tx t _ _ _ (rw first (value_of_decimal t.client (omega (arith, fits.client))))
    (rw (second, before (decimal t.number) (decimal t.payload) number) (value_of_decimal t.number (omega (arith, fits.number))))
    (rw (second, following (decimal t.number) (decimal t.payload) number) (value_of_decimal t.payload fits.payload))

fits_tx-fits : (t : Tx) → FitsTx t → fits_tx t ≡ true
fits_tx-fits t fits = rw (lt-ltb t.client (2 ^ 32) fits.client, lt-ltb t.number (2 ^ 32) fits.number, lt-ltb t.payload (2 ^ 64) fits.payload)

fits-fits_tx : (t : Tx) → fits_tx t ≡ true → FitsTx t
fits-fits_tx t within =
    let (client, rest) = and_parts _ _ within in
    let (number, payload) = and_parts _ _ rest in
    record { client = ltb-true t.client (2 ^ 32) client; number = ltb-true t.number (2 ^ 32) number; payload = ltb-true t.payload (2 ^ 64) payload }

-- the text of a transaction is read as just that one
pub tx_of_text-text : (t : Tx) → FitsTx t → tx_of_text (tx_text t) ≡ Some t
unfolding tx_of_text
tx_of_text-text t fits = rw (numbers_in-text t fits, fits_tx-fits t fits, (bytes_eq-Decides (tx_text t) (tx_text t)).1 refl)

-- what is read has that text
pub text_of_tx : (text : List ℕ) → IfSome (tx_of_text text) (λ t. FitsTx t × (text ≡ tx_text t))
unfolding tx_of_text
text_of_tx text =
    elim (cases_Bool (fits_tx (numbers_in text) && bytes_eq text (tx_text (numbers_in text)))) [
      | inl both ↦
          let (fits, same) = and_parts (fits_tx (numbers_in text)) (bytes_eq text (tx_text (numbers_in text))) both in
          rw both (fits-fits_tx (numbers_in text) fits, (bytes_eq-Decides text (tx_text (numbers_in text))).0 same)
      | inr none ↦ rw none tt
    ]

-- so a reader that returns a transaction of the text, or None where there is none, returns this one
pub tx_of_text-none : (text : List ℕ) → ((t : Tx) → FitsTx t → text ≢ tx_text t) → tx_of_text text ≡ None
tx_of_text-none text none = without (tx_of_text text) (text_of_tx text)
  where
    without : (r : Option Tx) → IfSome r (λ t. FitsTx t × (text ≡ tx_text t)) → r ≡ None
    without None some = refl
    without (Some t) some = absurd (none t some.0 some.1)

pub tx_of_text-some : (text : List ℕ) (t : Tx) → FitsTx t → text ≡ tx_text t → tx_of_text text ≡ Some t
tx_of_text-some text t fits same = rw same (tx_of_text-text t fits)
