-- The transaction that a text represents.
use Rattle.std.specs.Prelude.{ℕ, ◌^◌, ◌==◌, ◌&&◌, Bool, List, [], ◌∷◌, Option, Some, None, nat_lt, if◌then◌else◌}
use Rattle.std.specs.Str.{bytes_eq}
use Rattle.std.specs.Str.Parse.{digits_value}
use Rattle.seq_base.specs.declared.tx.Tx.{Tx}
use Rattle.seq_base.specs.Tx.{tx_text}

-- the bytes before the first dot, whose byte is 46, and those after it
abbrev pub before_dot : List ℕ → List ℕ
before_dot [] = []
before_dot (x ∷ xs) = if x == 46 then [] else x ∷ before_dot xs

abbrev pub after_dot : List ℕ → List ℕ
after_dot [] = []
after_dot (x ∷ xs) = if x == 46 then xs else after_dot xs

-- the numbers of the digits between the dots
unfoldable pub numbers_in : List ℕ → Tx
numbers_in text = record {
  client = digits_value 10 (before_dot text);
  number = digits_value 10 (before_dot (after_dot text));
  payload = digits_value 10 (after_dot (after_dot text));
}

-- they are within the widths of the fields
abbrev pub fits_tx : Tx → Bool
fits_tx t = nat_lt t.client (2 ^ 32) && (nat_lt t.number (2 ^ 32) && nat_lt t.payload (2 ^ 64))

-- the transaction with this text, if there is one
unfoldable pub tx_of_text : List ℕ → Option Tx
tx_of_text text = if fits_tx (numbers_in text) && bytes_eq text (tx_text (numbers_in text)) then Some (numbers_in text) else None
