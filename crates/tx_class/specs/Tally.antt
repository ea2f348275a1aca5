-- The listed transactions, and the number of lists that hold each.
use Rattle.std.specs.Prelude.{◌≡◌, ℕ, ◌≤◌, List, length, map, slice_index_or}
use Rattle.std.specs.List.{position_or_len}
use Rattle.std.specs.List.Sorted.{IsStrictlySortedBy}
use Rattle.seq_base.specs.declared.tx.Tx.{Tx}
use Rattle.seq_base.specs.Lists.{listed}
use Rattle.seq_base.specs.Setting.{Parameters, threshold_of, solid_of}
use Rattle.seq_base.specs.Tx.{tx_cmp, tx_eq}
use Rattle.tx_class.specs.declared.classes.Class.{Class}
use Rattle.tx_class.specs.Listed.{listed_in, class_by}

-- the transactions with their counts, and the bounds of the classes
pub record Tally : Type 0 where
  pub txs : List Tx
  pub counts : List ℕ
  pub threshold : ℕ
  pub solid_at : ℕ

-- the transactions are strictly ascending, and at most as many as 16 lists of 128 can hold
pub record IsTally (t : Tally) : Type 0 where
  pub ascending : IsStrictlySortedBy tx_cmp t.txs
  pub few : length t.txs ≤ 2048
  pub each : length t.counts ≡ length t.txs

-- the tally of the lists of a setting
abbrev pub tally_of : Parameters → List (List Tx) → Tally
tally_of s lists = record {
  txs = listed_in lists;
  counts = map (listed lists) (listed_in lists);
  threshold = threshold_of s;
  solid_at = solid_of s;
}

-- the count of a transaction, 0 where it is not listed
abbrev pub count_in : Tally → Tx → ℕ
count_in tally t = slice_index_or tally.counts (position_or_len (λ x. tx_eq x t) tally.txs) 0

-- its class by that count
abbrev pub class_in : Tally → Tx → Class
class_in tally t = class_by tally.threshold tally.solid_at (count_in tally t)
