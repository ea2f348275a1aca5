-- The listed transactions and their classes (Themis, CCS 2023, FairPropose; the bounds are this profile's).
use Rattle.std.specs.Prelude.{◌↔◌, ◌≡◌, ℕ, ◌<◌, List, [], fold, nat_le, true, if◌then◌else◌}
use Rattle.std.specs.List.{flat_map}
use Rattle.std.specs.List.Sorted.{IsStrictlySortedBy}
use Rattle.std.specs.BTreeSet.{insert_key}
use Rattle.seq_base.specs.declared.tx.Tx.{Tx}
use Rattle.seq_base.specs.Lists.{holds, listed}
use Rattle.seq_base.specs.Setting.{Parameters, threshold_of, solid_of}
use Rattle.seq_base.specs.Tx.{tx_cmp}
use Rattle.tx_class.specs.declared.classes.Class.{Class}
use Rattle.tx_class.specs.declared.classes.Class.TheVariants.{Solid, Shaded, Blank}

-- each listed transaction once, in ascending order
abbrev pub listed_in : List (List Tx) → List Tx
listed_in lists = fold (insert_key tx_cmp) [] (flat_map (λ list. list) lists)

-- the same as a relation: the transactions are ascending, and are those that some list holds
pub record AreListed (lists : List (List Tx)) (txs : List Tx) : Type 0 where
  pub ascending : IsStrictlySortedBy tx_cmp txs
  pub each : (t : Tx) → (holds t txs ≡ true) ↔ (0 < listed lists t)

-- the class of a transaction that `count` lists hold
abbrev pub class_by : ℕ → ℕ → ℕ → Class
class_by threshold solid_at count = if nat_le solid_at count then Solid else (if nat_le threshold count then Shaded else Blank)

-- solid: at least n-2f of the lists hold it; shaded: fewer, but at least T; else blank
abbrev pub class_of : Parameters → List (List Tx) → Tx → Class
class_of s lists t = class_by (threshold_of s) (solid_of s) (listed lists t)
