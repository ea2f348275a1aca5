-- Which of two transactions enough replicas received first (batch order fairness of Themis, CCS 2023). Replicas are
-- numbered from 0, and each has its arrival list.
use Rattle.std.specs.Prelude.{ℕ, ◌≡◌, ◌+◌, ◌*◌, ◌<◌, ◌≤◌, List, ◌++◌, Some, Bool, true, false, ◌&&◌, not, slice_get}
use Rattle.seq_base.specs.declared.tx.Tx.{Tx}
use Rattle.seq_base.specs.Lists.{holds}
use Rattle.seq_base.specs.Setting.{Parameters}
use Rattle.count_set.specs.Sets.{size_of}
use Rattle.fair_laws.specs.Earlier.{holds_without_earlier}

-- What each replica received, in that order. No law here requires that the items of a list are distinct.
abbrev pub Arrivals : Type 0
Arrivals = ℕ → List Tx

-- a is in the list, and b is later in it or absent
pub record Before (list : List Tx) (a b : Tx) : Type 0 where
  pub place : ℕ
  pub stands : slice_get list place ≡ Some a
  pub later : (other : ℕ) → slice_get list other ≡ Some b → place < other

-- The same as a test: the list holds a without an earlier b.
abbrev pub is_before : List Tx → Tx → Tx → Bool
is_before list a b = holds_without_earlier a b list

-- the honest replicas that received a before b
abbrev pub honest_before : (ℕ → Bool) → Arrivals → Tx → Tx → ℕ → Bool
honest_before faulty arrivals a b r = not (faulty r) && is_before (arrivals r) a b

-- At least γn of the n replicas received a before b, with γ = p/q, where each faulty one counts as one that did.
pub record Received (s : Parameters) (faulty : ℕ → Bool) (arrivals : Arrivals) (a b : Tx) : Type 0 where
  pub enough : s.p * s.n ≤ s.q * (size_of s.n (honest_before faulty arrivals a b) + size_of s.n faulty)

-- The transaction arrived at a replica that is not faulty.
pub record ArrivedAtHonest (s : Parameters) (faulty : ℕ → Bool) (arrivals : Arrivals) (t : Tx) : Type 0 where
  pub replica : ℕ
  pub below : replica < s.n
  pub honest : faulty replica ≡ false
  pub arrived : holds t (arrivals replica) ≡ true

-- each list, followed by more
abbrev pub followed : Arrivals → Arrivals → Arrivals
followed arrivals more r = arrivals r ++ more r
