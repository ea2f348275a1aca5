-- The result of reading bytes: the setting and the lists of an order text, or its first fault by line.
use Rattle.std.specs.Prelude.{ℕ, zero, suc, ◌+◌, ◌^◌, ◌==◌, ◌&&◌, Bool, true, not, List, [], ◌∷◌, ◌++◌, length, take, drop, position, Option, Some, None, Ok, codes, nat_lt, if◌then◌else◌}
use Rattle.std.specs.List.{slice_split}
use Rattle.std.specs.Option.{option_map, option_and_then}
use Rattle.std.specs.Borrow.{Bor}
use Rattle.std.specs.Fmt.{decimal}
use Rattle.std.specs.Str.{bytes_eq}
use Rattle.std.specs.Str.Parse.{digits_value}
use Rattle.seq_base.specs.declared.tx.Tx.{Tx}
use Rattle.seq_base.specs.Lists.{holds}
use Rattle.seq_base.specs.Setting.{Parameters, parameters, quorum_of}
use Rattle.plan_text.specs.declared.fault.FaultKind.TheVariants.{Missing, Double, Line}
use Rattle.plan_text.specs.declared.order.OrderText.{OrderText}
use Rattle.plan_text.specs.Reads.{Read, fault, then_read}
use Rattle.plan_text.specs.Head.{setting_of, settled}
use Rattle.plan_text.specs.TxTexts.{tx_of_text}

-- a fault of a line names its number, counted from 1
abbrev pub line_key : ℕ → List ℕ
line_key number = codes "line " ++ decimal number

-- what was found on a line, or a malformed line
abbrev pub of_form : {X : Type 0} → ℕ → Option X → Read X
of_form number None = fault Line (line_key number)
of_form number (Some x) = Ok x

-- the bytes before the first occurrence of this byte, and those after it
abbrev pub cut_at : ℕ → List ℕ → Option (List ℕ × List ℕ)
cut_at byte text = option_map (λ at. (take at text, drop (at + 1) text)) (position (λ b. b == byte) text)

-- the first line of a text and the rest after it; it is missing at the end of the text, and malformed where no line
-- feed ends it
abbrev pub line_at : ℕ → List ℕ → Read (List ℕ × List ℕ)
line_at number [] = fault Missing (line_key number)
line_at number (b ∷ bs) = of_form number (cut_at 10 (b ∷ bs))

-- the words of a line: the parts between its spaces
abbrev pub words_in : List ℕ → List (List ℕ)
words_in line = slice_split (λ b. b == 32) line

-- the words after a space, if there was one
abbrev pub words_after : Option (Bor (List ℕ)) → List (List ℕ)
words_after None = []
words_after (Some rest) = words_in rest.now

-- the 32-bit number with this text
unfoldable pub number_of_text : List ℕ → Option ℕ
number_of_text text = if nat_lt (digits_value 10 text) (2 ^ 32) && bytes_eq text (decimal (digits_value 10 text)) then Some (digits_value 10 text) else None

-- the four numbers after the word `setting`
abbrev pub numbers_of : List ℕ → List ℕ → List ℕ → List ℕ → Option Parameters
numbers_of n f p q =
    option_and_then (λ a. option_and_then (λ b. option_and_then (λ c. option_and_then (λ d.
    Some (parameters a b c d)) (number_of_text q)) (number_of_text p)) (number_of_text f)) (number_of_text n)

abbrev pub parameters_in : List (List ℕ) → Option Parameters
parameters_in (word ∷ n ∷ f ∷ p ∷ q ∷ []) = if bytes_eq word (codes "setting") then numbers_of n f p q else None
parameters_in _ = None

-- the setting of a line, which has to be valid
abbrev pub setting_in : List ℕ → Read Parameters
setting_in line = then_read (of_form 1 (parameters_in (words_in line))) (λ s. settled (setting_of s))

-- a transaction after `count` others of its line, at most 128 in all
abbrev pub next_tx : ℕ → List ℕ → Option Tx
next_tx count word = if nat_lt count 128 then tx_of_text word else None

-- the transactions of all words, after those that were read before
abbrev pub txs_after : List Tx → List (List ℕ) → Option (List Tx)
txs_after before [] = Some before
txs_after before (word ∷ words) = option_and_then (λ t. txs_after (before ++ t ∷ []) words) (next_tx (length before) word)

-- those after the word `order`
abbrev pub txs_in : List (List ℕ) → Option (List Tx)
txs_in [] = None
txs_in (word ∷ words) = if bytes_eq word (codes "order") then txs_after [] words else None

-- whether no transaction occurs twice
abbrev pub are_distinct : List Tx → Bool
are_distinct [] = true
are_distinct (t ∷ ts) = not (holds t ts) && are_distinct ts

abbrev pub once : ℕ → List Tx → Read (List Tx)
once number txs = if are_distinct txs then Ok txs else fault Double (line_key number)

-- the local order on the line of this number
abbrev pub order_in : ℕ → List ℕ → Read (List Tx)
order_in number line = then_read (of_form number (txs_in (words_in line))) (once number)

-- anything after the last line is a malformed line
abbrev pub ended : {X : Type 0} → ℕ → X → List ℕ → Read X
ended number x [] = Ok x
ended number x (b ∷ bs) = fault Line (line_key number)

-- `left` lines, starting at the line of this number, after the lists that were read before, and nothing more
abbrev pub lists_after : ℕ → ℕ → List (List Tx) → List ℕ → Read (List (List Tx))
lists_after zero number before text = ended number before text
lists_after (suc left) number before text =
    then_read (line_at number text) (λ found.
    then_read (order_in number found.0) (λ txs.
    lists_after left (number + 1) (before ++ txs ∷ []) found.1))

abbrev pub make_order_text : Parameters → List (List Tx) → OrderText
make_order_text s lists = record { setting = s; lists = lists }

-- the first line is the setting's, and the quorum's lists follow
unfoldable pub read_orders : List ℕ → Read OrderText
read_orders text =
    then_read (line_at 1 text) (λ found.
    then_read (setting_in found.0) (λ s.
    then_read (lists_after (quorum_of s) 2 [] found.1) (λ lists.
    Ok (make_order_text s lists))))
