-- Sets of the keys met so far, so that a duplicate is found immediately.
use Rattle.std.specs.Prelude.{◌≡◌, ◌≢◌, ℕ, List}
use Rattle.std.specs.List.{list_any, AllPairs}
use Rattle.std.specs.declared.cmp.Ordering.{Ordering}
use Rattle.std.specs.Ordering.{nat_cmp, is_eq, ordering_then}
use Rattle.std.specs.BTreeSet.{BTreeSet, contains}

-- the set has the keys of the items, and no other
pub record Marks {K X : Type 0} (cmp : K → K → Ordering) (key : X → K) (set : BTreeSet K) (items : List X) : Type 0 where
  pub at : (k : K) → contains cmp set k ≡ list_any (λ item. is_eq (cmp k (key item))) items

-- in addition, no two of them have the same key
pub record MarksOnce {K X : Type 0} (cmp : K → K → Ordering) (key : X → K) (set : BTreeSet K) (items : List X) : Type 0 where
  pub marks : Marks cmp key set items
  pub differ : AllPairs (λ a b. key a ≢ key b) items

-- by the first number, then the second, then the third
abbrev pub two_cmp : ℕ × ℕ → ℕ × ℕ → Ordering
two_cmp x y = ordering_then (nat_cmp x.0 y.0) (nat_cmp x.1 y.1)

abbrev pub three_cmp : ℕ × ℕ × ℕ → ℕ × ℕ × ℕ → Ordering
three_cmp x y = ordering_then (ordering_then (nat_cmp x.0 y.0) (nat_cmp x.1 y.1)) (nat_cmp x.2 y.2)
