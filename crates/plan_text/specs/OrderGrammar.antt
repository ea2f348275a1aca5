-- The grammar of order texts: a line for the setting, and one for each local order.
use Rattle.std.specs.Prelude.{◌≡◌, ℕ, ◌≤◌, List, [], ◌∷◌, ◌++◌, length, map, codes}
use Rattle.std.specs.List.{AllByRecursion, flat_map, join_with_byte}
use Rattle.std.specs.Fmt.{decimal}
use Rattle.seq_base.specs.declared.tx.Tx.{Tx}
use Rattle.seq_base.specs.Tx.{tx_text, FitsTx}
use Rattle.seq_base.specs.Lists.{AreDistinct}
use Rattle.seq_base.specs.Setting.{Parameters, IsValid, quorum_of}

-- the words of the line of a setting, and of the line of a local order
abbrev pub setting_words : Parameters → List (List ℕ)
setting_words s = codes "setting" ∷ decimal s.n ∷ decimal s.f ∷ decimal s.p ∷ decimal s.q ∷ []

abbrev pub order_words : List Tx → List (List ℕ)
order_words txs = codes "order" ∷ map tx_text txs

-- words are separated by one space, whose byte is 32
abbrev pub line_of : List (List ℕ) → List ℕ
line_of words = join_with_byte 32 words

-- each line ends with a line feed, whose byte is 10
abbrev pub text_of : List (List ℕ) → List ℕ
text_of lines = flat_map (λ line. line ++ 10 ∷ []) lines

abbrev pub order_text_of : Parameters → List (List Tx) → List ℕ
order_text_of s lists = text_of (line_of (setting_words s) ∷ map (λ txs. line_of (order_words txs)) lists)

-- a list that is allowed on a line: short and distinct, of transactions that have a text
pub record IsLocalOrder (txs : List Tx) : Type 0 where
  pub short : length txs ≤ 128
  pub distinct : AreDistinct txs
  pub fits : AllByRecursion FitsTx txs

-- the content of an order text: as many lists as the quorum of a valid setting
pub record AreOrders (s : Parameters) (lists : List (List Tx)) : Type 0 where
  pub setting : IsValid s
  pub quorum : length lists ≡ quorum_of s
  pub each : AllByRecursion IsLocalOrder lists
