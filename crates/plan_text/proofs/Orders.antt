-- Reading continues from line to line.
use Rattle.std.proofs.Common.{◌≡◌, ℕ, suc, ◌+◌, List, [], ◌∷◌, ◌++◌, Ok, refl}
use Rattle.seq_base.specs.declared.tx.Tx.{Tx}
use Rattle.plan_text.specs.OrderReading.{line_at, order_in, lists_after}

-- the list of one more line is read
pub lists_on : (left next number : ℕ) (before : List (List Tx)) (text line rest : List ℕ) (txs : List Tx) → left ≡ suc next
    → line_at number text ≡ Ok (line, rest) → order_in number line ≡ Ok txs
    → lists_after left number before text ≡ lists_after next (number + 1) (before ++ txs ∷ []) rest
lists_on left next number before text line rest txs is line_is order_is = rw (is, line_is, order_is) refl
