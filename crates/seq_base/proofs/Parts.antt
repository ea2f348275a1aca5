-- There is only one way to split a text at its dots.
use Rattle.std.proofs.Common.{◌≡◌, ◌≢◌, ℕ, ◌<◌, ◌^◌, List, [], ◌∷◌, ◌++◌, arith, refl, sym, ◌∙◌}
use Rattle.std.specs.Fmt.{decimal}
use Rattle.std.specs.Str.Parse.{AllDigits}
use Rattle.std.specs.Char.{digit_value}
use Rattle.std.proofs.lemmas.Fmt.{decimal_is_IsNumeral}
use Rattle.std.proofs.lemmas.List.{append_assoc}
use Rattle.seq_base.specs.Dots.{HasNoDot}
use Rattle.seq_base.specs.Tx.{tx_text, FitsTx}
use Rattle.seq_base.specs.declared.tx.Tx.{Tx}

same_parts : (xs ys zs ws : List ℕ) → HasNoDot xs → HasNoDot zs → xs ++ (46 ∷ ys) ≡ zs ++ (46 ∷ ws) → (xs ≡ zs) × (ys ≡ ws)
same_parts [] ys [] ws n m e = (refl, cc)
same_parts [] ys (z ∷ zs) ws n m e = absurd (m.0 (cc))
same_parts (x ∷ xs) ys [] ws n m e = absurd (n.0 (cc))
same_parts (x ∷ xs) ys (z ∷ zs) ws n m e =
    let rest : (xs ≡ zs) × (ys ≡ ws) = same_parts xs ys zs ws n.1 m.1 (cc) in
    ((cc), rest.1)

-- a text with a dot has a dot
pub dot_is_there : (xs ys : List ℕ) → HasNoDot (xs ++ (46 ∷ ys)) → ⊥
dot_is_there [] ys none = none.0 refl
dot_is_there (x ∷ xs) ys none = dot_is_there xs ys none.1

digit_is_no_dot : (c : ℕ) → digit_value c < 10 → c ≢ 46
digit_is_no_dot c small e = let at : digit_value 46 < 10 = rw e at small in absurd (omega arith)

no_dot_in_digits : (ds : List ℕ) → AllDigits 10 ds → HasNoDot ds
no_dot_in_digits [] d = tt
no_dot_in_digits (c ∷ cs) d = (digit_is_no_dot c d.0, no_dot_in_digits cs d.1)

pub no_dot_in_decimal : (n : ℕ) → n < 2 ^ 64 → HasNoDot (decimal n)
no_dot_in_decimal n small = no_dot_in_digits (decimal n) (decimal_is_IsNumeral n small).0.1

-- the bytes before the first dot of a transaction's text, and those after it
pub client_part : (text prefix rest : List ℕ) (t : Tx) → FitsTx t → text ≡ tx_text t → text ≡ prefix ++ (46 ∷ rest) → HasNoDot prefix
    → (prefix ≡ decimal t.client) × (rest ≡ decimal t.number ++ (46 ∷ decimal t.payload))
client_part text prefix rest t fits spelled split none =
    same_parts prefix rest (decimal t.client) (decimal t.number ++ (46 ∷ decimal t.payload)) none
    (no_dot_in_decimal t.client (omega (arith, fits.client)))
    (sym split ∙ spelled ∙ append_assoc (decimal t.client) (46 ∷ decimal t.number) (46 ∷ decimal t.payload))

pub number_part : (text prefix rest : List ℕ) (t : Tx) → FitsTx t → text ≡ decimal t.number ++ (46 ∷ decimal t.payload)
    → text ≡ prefix ++ (46 ∷ rest) → HasNoDot prefix
    → (prefix ≡ decimal t.number) × (rest ≡ decimal t.payload)
number_part text prefix rest t fits spelled split none =
    same_parts prefix rest (decimal t.number) (decimal t.payload) none
    (no_dot_in_decimal t.number (omega (arith, fits.number)))
    (sym split ∙ spelled)
