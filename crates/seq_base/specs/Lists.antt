-- Lists of transactions, one for each local order.
use Rattle.std.specs.Prelude.{ℕ, ◌≤◌, ◌≢◌, List, length, Bool, count_by, All}
use Rattle.std.specs.List.{list_any, AllPairs}
use Rattle.seq_base.specs.declared.tx.Tx.{Tx}
use Rattle.seq_base.specs.Tx.{tx_eq}

-- whether a list holds a transaction
abbrev pub holds : Tx → List Tx → Bool
holds t list = list_any (λ x. tx_eq x t) list

-- the number of lists that hold it
abbrev pub listed : List (List Tx) → Tx → ℕ
listed lists t = count_by (holds t) lists

-- no transaction occurs twice in the list
abbrev pub AreDistinct : List Tx → Type 0
AreDistinct txs = AllPairs (λ u v. u ≢ v) txs

-- At most 16 lists, the limit for orders, each of at most 128 entries, the limit of a fresh list: 2,048 entries in
-- all.
pub record AreFresh (lists : List (List Tx)) : Type 0 where
  pub few : length lists ≤ 16
  pub short : All (λ list. length list ≤ 128) lists
