-- The entries of a list: its transactions with their places, sorted.
use Rattle.std.specs.Prelude.{◌≡◌, ◌≢◌, ℕ, ◌<◌, ◌≤◌, List, length, All, Contains, Some, slice_get, slice_index_or}
use Rattle.std.specs.List.Sorted.{IsSorted}
use Rattle.std.specs.Ordering.{nat_cmp, ordering_then}
use Rattle.std.specs.declared.cmp.Ordering.{Ordering}
use Rattle.std.specs.declared.cmp.Ordering.TheVariants.{Less}
use Rattle.seq_base.specs.declared.tx.Tx.{Tx}
use Rattle.seq_base.specs.Tx.{tx_cmp}
use Rattle.majority_graph.specs.declared.lookup.Entry.{Entry}

-- by transaction, then place
abbrev pub entry_cmp : Entry → Entry → Ordering
entry_cmp a b = ordering_then (tx_cmp a.tx b.tx) (nat_cmp a.place b.place)

-- the entry of a place
abbrev pub entry : Tx → ℕ → Entry
entry t k = record { tx = t; place = k }

-- these are the entries of the places below `count`
pub record AreNumbered (list : List Tx) (count : ℕ) (entries : List Entry) : Type 0 where
  pub each : All (λ e. slice_get list e.place ≡ Some e.tx) entries
  pub all : (k : ℕ) (t : Tx) → k < count → slice_get list k ≡ Some t → Contains entries (entry t k)

-- these are the entries of all places, in order
pub record AreEntries (list : List Tx) (entries : List Entry) : Type 0 where
  pub numbered : AreNumbered list (length list) entries
  pub sorted : IsSorted entry_cmp entries

-- all entries before a position are of lesser transactions
pub record AreBefore (entries : List Entry) (t : Tx) (at : ℕ) : Type 0 where
  pub inside : at ≤ length entries
  pub each : (k : ℕ) (d : Entry) → k < at → tx_cmp (slice_index_or entries k d).tx t ≡ Less

-- the one at the position, if there is one, is not
abbrev pub IsNotBefore : List Entry → Tx → ℕ → Type 0
IsNotBefore entries t at = (d : Entry) → at < length entries → tx_cmp (slice_index_or entries at d).tx t ≢ Less
