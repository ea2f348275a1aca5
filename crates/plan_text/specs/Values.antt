-- What a value of a document is read as, or the kind of its fault.
use Rattle.std.specs.Prelude.{◌≡◌, ℕ, ℤ, pos, negsuc, ◌&&◌, List, ◌∷◌, [], Option, Some, None, Result, Ok, Err, nat_le, if◌then◌else◌}
use Rattle.toml.specs.Data.{Data, Items, no_items, item, string, integer, array}
use Rattle.seq_base.specs.declared.tx.Tx.{Tx}
use Rattle.plan_text.specs.TxTexts.{tx_of_text}
use Rattle.plan_text.specs.declared.fault.FaultKind.{FaultKind}
use Rattle.plan_text.specs.declared.fault.FaultKind.TheVariants.{WrongKind, Range}

-- a number from low to high; a negative one is in no such range
abbrev pub within : ℕ → ℕ → ℤ → Result ℕ FaultKind
within low high (pos n) = if nat_le low n && nat_le n high then Ok n else Err Range
within low high (negsuc n) = Err Range

abbrev pub number_in : ℕ → ℕ → Data → Result ℕ FaultKind
number_in low high (integer z) = within low high z
number_in low high _ = Err WrongKind

abbrev pub natural : ℤ → Result ℕ FaultKind
natural (pos n) = Ok n
natural (negsuc n) = Err Range

-- any number that is not negative
abbrev pub seed_in : Data → Result ℕ FaultKind
seed_in (integer z) = natural z
seed_in _ = Err WrongKind

abbrev pub word_in : Data → Result (List ℕ) FaultKind
word_in (string s) = Ok s
word_in _ = Err WrongKind

-- the values of an array, one after another
abbrev pub values_of : Items → List Data
values_of no_items = []
values_of (item d ds) = d ∷ values_of ds

abbrev pub array_in : Data → Result (List Data) FaultKind
array_in (array ds) = Ok (values_of ds)
array_in _ = Err WrongKind

abbrev pub tx_or_range : Option Tx → Result Tx FaultKind
tx_or_range (Some t) = Ok t
tx_or_range None = Err Range

-- the text of a transaction
abbrev pub tx_in : Data → Result Tx FaultKind
tx_in (string s) = tx_or_range (tx_of_text s)
tx_in _ = Err WrongKind

-- the function's value of what is read, or the same fault
abbrev pub Gives : {X Y E : Type 0} → (X → Y) → Result X E → Result Y E → Type 0
Gives shown (Ok x) r = r ≡ Ok (shown x)
Gives shown (Err e) r = r ≡ Err e
