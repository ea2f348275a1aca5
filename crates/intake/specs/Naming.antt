-- Which transactions the lists of a block name: those that more than f of them hold.
use Rattle.std.specs.Prelude.{◌≡◌, ◌≤◌, ◌<◌, ◌⊎◌, ℕ, List, min, true, count_by, sum_by, unwrap_or}
use Rattle.std.specs.List.{AllByRecursion, list_any}
use Rattle.std.specs.Map.{lookup}
use Rattle.seq_base.specs.declared.tx.Tx.{Tx}
use Rattle.seq_base.specs.Tx.{tx_eq}
use Rattle.intake.specs.Desk.{Desk}
use Rattle.intake.specs.Offered.{named_all}
use Rattle.intake.specs.Receiving.{received}

-- how often the lists hold a transaction: how many of them do, where each list holds its transactions once
abbrev pub times_in : List (List Tx) → Tx → ℕ
times_in lists tx = sum_by (λ list. count_by (tx_eq tx) list) lists

-- the same, as a number of 32 bits holds it
abbrev pub count_in : List (List Tx) → Tx → ℕ
count_in lists tx = min (times_in lists tx) 4294967295

-- the count of a transaction, 0 where there is none
abbrev pub count_of : Tx → List (Tx × ℕ) → ℕ
count_of tx counts = unwrap_or (lookup (tx_eq tx) counts) 0

-- Each count is at most how often the lists hold its transaction.
abbrev pub AreLow : List (List Tx) → List (Tx × ℕ) → Type 0
AreLow lists counts = AllByRecursion (λ e. e.1 ≤ times_in lists e.0) counts

-- The counts are those of the lists.
pub record AreCounted (lists : List (List Tx)) (counts : List (Tx × ℕ)) : Type 0 where
  pub low : AreLow lists counts
  pub all : (tx : Tx) → count_in lists tx ≤ count_of tx counts

-- The transaction is received from blocks, or nothing is, where memory runs out.
abbrev pub IsNamed : Tx → Desk → Desk → Type 0
IsNamed tx old new = (new ≡ received old.n tx old) ⊎ (new ≡ old)

-- Only receipts from blocks, of transactions that the lists hold more than f times.
pub record HasNamedOf (f : ℕ) (lists : List (List Tx)) (old new : Desk) : Type 0 where
  pub txs : List Tx
  pub is : new ≡ named_all txs old
  pub only : AllByRecursion (λ tx. f < times_in lists tx) txs

-- The same, of all such transactions but those of these counts.
pub record HasNamedBut (f : ℕ) (lists : List (List Tx)) (rest : List (Tx × ℕ)) (old new : Desk) : Type 0 where
  pub txs : List Tx
  pub is : new ≡ named_all txs old
  pub only : AllByRecursion (λ tx. f < times_in lists tx) txs
  pub all : (tx : Tx) → f < count_in lists tx → (list_any (tx_eq tx) txs ≡ true) ⊎ (f < count_of tx rest)

-- The same, of all such transactions.
pub record HasNamedAll (f : ℕ) (lists : List (List Tx)) (old new : Desk) : Type 0 where
  pub txs : List Tx
  pub is : new ≡ named_all txs old
  pub only : AllByRecursion (λ tx. f < times_in lists tx) txs
  pub all : (tx : Tx) → f < count_in lists tx → list_any (tx_eq tx) txs ≡ true
